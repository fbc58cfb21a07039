use Rattle.std.proofs.Common.{refl, sym, subst}
use Rattle.wb_play.specs.Answered.{WasAnswered, done_line}
use Rattle.wb_dialogue.specs.declared.line.Call.{Call}
use Rattle.wb_play.proofs.Answering.{said_quietly, went_quietly, refused_behind, fill_prints_nothing, durable_fill_prints_nothing}
use Rattle.wb_play.proofs.answers.answer.Goals as goal

pub returns-in_ok-go_through-in-Write-clause-answered : goal.returns-in_ok-go_through-in-Write-clause-answered
returns-in_ok-go_through-in-Write-clause-answered g c =
    let done = c.in_ok-go_through-in-Write.ensures.done in
    said_quietly g.C.Served.did _ (fill_prints_nothing g.C.Served.did c.in-Write.fill) c.args.asked _ _ c.args.client.now c.go_through-in-Write.new.client done.0 _ _ _ c.done.result
    (λ went. subst (λ (it : Call). WasAnswered g.C.Served.did it c.args.client.now done_line c.go_through-in-Write.new.client) (sym c.in-Write.is) (went, refl)) done.1 done.2 c.done.ensures.line

pub returns-in_ok-go_through-in-WriteDurably-clause-answered : goal.returns-in_ok-go_through-in-WriteDurably-clause-answered
returns-in_ok-go_through-in-WriteDurably-clause-answered g c =
    let done = c.in_ok-go_through-in-WriteDurably.ensures.done in
    said_quietly g.C.Served.did _ (durable_fill_prints_nothing g.C.Served.did c.in-WriteDurably.fill) c.args.asked _ _ c.args.client.now c.go_through-in-WriteDurably.new.client done.0 _ _ _ c.done-in-WriteDurably.result
    (λ went. subst (λ (it : Call). WasAnswered g.C.Served.did it c.args.client.now done_line c.go_through-in-WriteDurably.new.client) (sym c.in-WriteDurably.is) (went, refl)) done.1 done.2 c.done-in-WriteDurably.ensures.line

pub returns-in_ok-go_through-in-Write-clause-refused : goal.returns-in_ok-go_through-in-Write-clause-refused
returns-in_ok-go_through-in-Write-clause-refused g c =
    let done = c.in_ok-go_through-in-Write.ensures.done in
    let alone = went_quietly g.C.Served.did _ (fill_prints_nothing g.C.Served.did c.in-Write.fill) c.in-Write.at.0 _ c.args.client.now done.0 c.go_through-in-Write.new.client done.1 in
    refused_behind g.C.Served.did g.C.Served.met c.args.asked c.args.client.now c.go_through-in-Write.new.client c.done.result
    (subst (λ (it : Call). WasAnswered g.C.Served.did it c.args.client.now done_line c.go_through-in-Write.new.client) (sym c.in-Write.is) (alone.1, refl)) c.done.ensures.refused

pub returns-in_ok-go_through-in-WriteDurably-clause-refused : goal.returns-in_ok-go_through-in-WriteDurably-clause-refused
returns-in_ok-go_through-in-WriteDurably-clause-refused g c =
    let done = c.in_ok-go_through-in-WriteDurably.ensures.done in
    let alone = went_quietly g.C.Served.did _ (durable_fill_prints_nothing g.C.Served.did c.in-WriteDurably.fill) c.in-WriteDurably.at.0 _ c.args.client.now done.0 c.go_through-in-WriteDurably.new.client done.1 in
    refused_behind g.C.Served.did g.C.Served.met c.args.asked c.args.client.now c.go_through-in-WriteDurably.new.client c.done-in-WriteDurably.result
    (subst (λ (it : Call). WasAnswered g.C.Served.did it c.args.client.now done_line c.go_through-in-WriteDurably.new.client) (sym c.in-WriteDurably.is) (alone.1, refl)) c.done-in-WriteDurably.ensures.refused
