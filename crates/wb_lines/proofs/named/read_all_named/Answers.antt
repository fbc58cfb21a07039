use Rattle.std.proofs.Common.{◌≡◌, ◌∙◌, ◌++◌, [], ◌∷◌, rules, sym, ap, subst}
use Rattle.std.proofs.lemmas.List.{append_assoc}
use Rattle.wb_table.specs.Words.{words_of}
use Rattle.wb_lines.specs.Lines.{SpellsAllNamed}
use Rattle.wb_lines.proofs.Names.{SpellsAllNamed-more, SpellsAllNamed-at}
use Rattle.wb_lines.proofs.named.read_all_named.Goals as goal

pub returns-in_default-read_named-clause-none : goal.returns-in_default-read_named-clause-none
returns-in_default-read_named-clause-none c = λ named spelled.
    let before = c.loop-word.invariant.before in
    let word = c.in-Some.word.now in
    let rest = words_of c.next.new.self.0.now in
    let cut : words_of c.args.words.0.now ≡ before ++ word ∷ rest = c.loop-word.invariant.cut ∙ ap (λ words. before ++ words) c.in-Some.ensures.steps in
    let at = SpellsAllNamed-at before word rest named (subst (λ words. SpellsAllNamed words named) cut spelled) in
    c.in_default-read_named.ensures.none at.0 at.1

pub loop-word-preserved : goal.loop-word-preserved
loop-word-preserved c =
    let before = c.loop-word.invariant.before in
    let word = c.in-Some.word.now in
    let rest = words_of c.next.new.self.0.now in
    let cut = c.loop-word.invariant.cut ∙ ap (λ words. before ++ words) c.in-Some.ensures.steps in
    let pushed : c.push.new.self.items ≡ c.loop-word.all.items ++ c.in-Some-read_named.named ∷ [] = search rules in
    record {
      next = tt;
      finite = tt;
      before = before ++ word ∷ [];
      cut = cut ∙ sym (append_assoc before (word ∷ []) rest);
      read = subst (λ all. SpellsAllNamed (before ++ word ∷ []) all) (sym pushed) (SpellsAllNamed-more before c.loop-word.all.items word c.in-Some-read_named.named c.loop-word.invariant.read c.in-Some-read_named.ensures.found);
    }
