-- A call goes on by one part more; of a write nothing is printed on the way.
use Rattle.std.proofs.Common.{◌≡◌, ◌<◌, ◌+◌, ◌++◌, ◌==◌, ◌∙◌, ℕ, Bool, true, false, List, [], ◌∷◌, refl, sym, ap, subst, append-nil, Result, OnOk, IfErr, Ok, Err, inl, inr}
use Rattle.std.proofs.lemmas.Result.{on_ok_weaker}
use Rattle.wb_opened.specs.Deeds.{Deed}
use Rattle.wb_opened.specs.Refused.{Demand}
use Rattle.wb_target.specs.Tries.{Tried as OneByOne}
use Rattle.wb_target.proofs.Tries.{SoFar, again}
use Rattle.wb_play.specs.Answered.{DidPart, Reached, WentOn, WentThrough, WasAnswered, done_line}
use Rattle.wb_play.specs.Stopped.{StoppedAt, StoppedWithin, IsOutsideOrStopped, WasStopped, CallWasRefused}
use Rattle.wb_types.specs.declared.refusal.Refusal.{Refusal}
use Rattle.wb_types.specs.declared.refusal.Refusal.TheVariants.{Memory}
use Rattle.wb_play.specs.declared.answers.Deed.{Deed as Doing}
use Rattle.wb_play.specs.declared.answers.Deed.TheVariants.{Fill, FillDurably}
use Rattle.wb_dialogue.specs.declared.line.Call.{Call}

pub went_on : {C : Type 0} (did : C → Deed → C → Type 0) (doing : Doing) (end : ℕ) (start : Reached C) (old new : C) (at first count : ℕ) (printed lines : List ℕ) (is_last : Bool) → 0 < count → is_last ≡ (first + count == end) → at ≡ first → DidPart did doing is_last at count old lines new
    → SoFar (WentOn did doing end) start (record { client = old; next = first; printed = printed }) → SoFar (WentOn did doing end) start (record { client = new; next = first + count; printed = printed ++ lines })
went_on did doing end start old new at first count printed lines is_last some last same part so =
    let begun : DidPart did doing is_last first count old lines new = subst (λ (it : ℕ). DidPart did doing is_last it count old lines new) same part in
    again (WentOn did doing end) start (record { client = old; next = first; printed = printed }) (record { client = new; next = first + count; printed = printed ++ lines }) so
    (record { count = count; lines = lines; some = some; next = refl; part = subst (λ (b : Bool). DidPart did doing b first count old lines new) last begun; printed = refl })

-- no part of it prints a line
abbrev pub PrintsNothing : {C : Type 0} → (C → Deed → C → Type 0) → Doing → Type 0
PrintsNothing {C} did doing = (is_last : Bool) (first count : ℕ) (old : C) (lines : List ℕ) (new : C) → DidPart did doing is_last first count old lines new → lines ≡ []

pub fill_prints_nothing : {C : Type 0} (did : C → Deed → C → Type 0) (byte : ℕ) → PrintsNothing did (Fill byte)
fill_prints_nothing did byte is_last first count old lines new part = part.1

pub durable_fill_prints_nothing : {C : Type 0} (did : C → Deed → C → Type 0) (byte : ℕ) → PrintsNothing did (FillDurably byte)
durable_fill_prints_nothing did byte true first count old lines new part = part.1
durable_fill_prints_nothing did byte false first count old lines new part = part.1

nothing_printed : {C : Type 0} (did : C → Deed → C → Type 0) (doing : Doing) (end : ℕ) → PrintsNothing did doing → (old : Reached C) (parts : List (Reached C)) (new : Reached C) → OneByOne (WentOn did doing end) old parts new → new.printed ≡ old.printed
nothing_printed did doing end quiet old [] new same = ap (λ it. it.printed) (sym same)
nothing_printed did doing end quiet old (next ∷ parts) new (on, rest) =
    nothing_printed did doing end quiet next parts new rest
    ∙ on.printed ∙ ap (λ lines. old.printed ++ lines) (quiet (next.next == end) old.next on.count old.client on.lines next.client on.part) ∙ append-nil old.printed

-- so it went through, and printed nothing
pub went_quietly : {C : Type 0} (did : C → Deed → C → Type 0) (doing : Doing) → PrintsNothing did doing → (first end : ℕ) (old : C) (printed : List ℕ) (new : C) → WentThrough did doing first end old printed new → (printed ≡ []) × WentThrough did doing first end old [] new
went_quietly {C} did doing quiet first end old printed new went =
    let none : printed ≡ [] = nothing_printed did doing end quiet (record { client = old; next = first; printed = [] }) went.0 (record { client = new; next = end; printed = printed }) went.1 in
    (none, subst (λ (it : List ℕ). WentThrough did doing first end old it new) none went)

-- what was done so is answered by a line that says so
pub said_done : {C T E : Type 0} (did : C → Deed → C → Type 0) (asked : Call) (old new : C) (before mid after : List ℕ) (r : Result T E) → mid ≡ before → WasAnswered did asked old done_line new → OnOk r (after ≡ mid ++ done_line)
    → OnOk r ((printed : List ℕ) × WasAnswered did asked old printed new × (after ≡ before ++ printed))
said_done did asked old new before mid after r same answered said = on_ok_weaker r (λ line. (done_line, answered, line ∙ ap (λ text. text ++ done_line) same)) said

-- and so is what prints nothing on the way
pub said_quietly : {C T E : Type 0} (did : C → Deed → C → Type 0) (doing : Doing) → PrintsNothing did doing → (asked : Call) (first end : ℕ) (old new : C) (printed before mid after : List ℕ) (r : Result T E) → (WentThrough did doing first end old [] new → WasAnswered did asked old done_line new)
    → WentThrough did doing first end old printed new → mid ≡ before ++ printed → OnOk r (after ≡ mid ++ done_line) → OnOk r ((printed : List ℕ) × WasAnswered did asked old printed new × (after ≡ before ++ printed))
said_quietly did doing quiet asked first end old new printed before mid after r answers went adds said =
    let alone = went_quietly did doing quiet first end old printed new went in
    said_done did asked old new before mid after r (adds ∙ ap (λ lines. before ++ lines) alone.0 ∙ append-nil before) (answers alone.1) said

-- it went on so far, and there it was refused
pub stopped_on : {C : Type 0} (did : C → Deed → C → Type 0) (met : C → Demand → Refusal → C → Type 0) (doing : Doing) (first all end : ℕ) (old reached new : C) (at next count : ℕ) (printed : List ℕ) (refusal : Refusal) (is_last : Bool) → 0 < count → is_last ≡ (next + count == end) → at ≡ next → end ≡ all
    → StoppedAt did met doing is_last at count reached refusal new → SoFar (WentOn did doing end) (record { client = old; next = first; printed = [] }) (record { client = reached; next = next; printed = printed }) → IsOutsideOrStopped did met doing first all old refusal new
stopped_on {C} did met doing first all end old reached new at next count printed refusal is_last some last same whole stopped so =
    let here : StoppedAt did met doing is_last next count reached refusal new = subst (λ (it : ℕ). StoppedAt did met doing is_last it count reached refusal new) same stopped in
    let within : StoppedWithin did met doing first end old refusal new = record {
      reached = record { client = reached; next = next; printed = printed };
      parts = so.0;
      went = so.1;
      count = count;
      some = some;
      stopped = subst (λ (b : Bool). StoppedAt did met doing b next count reached refusal new) last here;
    } in
    inr (subst (λ (it : ℕ). StoppedWithin did met doing first it old refusal new) whole within)

-- who was refused a call was refused so, or had it done and lacked memory for the line
pub refused_before : {C T : Type 0} (did : C → Deed → C → Type 0) (met : C → Demand → Refusal → C → Type 0) (asked : Call) (old new : C) (r : Result T Refusal) → IfErr r (λ refusal. WasStopped did met asked old refusal new) → IfErr r (λ refusal. CallWasRefused did met asked old refusal new)
refused_before did met asked old new (Ok x) stopped = tt
refused_before did met asked old new (Err refusal) stopped = inl stopped

pub refused_behind : {C T : Type 0} (did : C → Deed → C → Type 0) (met : C → Demand → Refusal → C → Type 0) (asked : Call) (old new : C) (r : Result T Refusal) → WasAnswered did asked old done_line new → IfErr r (λ refusal. refusal ≡ Memory) → IfErr r (λ refusal. CallWasRefused did met asked old refusal new)
refused_behind did met asked old new (Ok x) answered lacks = tt
refused_behind did met asked old new (Err refusal) answered lacks = inr (lacks, answered)
