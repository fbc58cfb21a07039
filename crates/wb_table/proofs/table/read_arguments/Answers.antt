use Rattle.std.proofs.Common.{◌≡◌, ℕ, List, ◌∷◌, length, refl, sym, subst, ap, ◌∙◌, arith}
use Rattle.wb_table.specs.Numbers.{SpellsNumber}
use Rattle.wb_table.specs.Table.{SpellsArguments, GivesKeys, no_keys}
use Rattle.wb_table.specs.Words.{words_of}
use Rattle.wb_table.specs.declared.table.Keys.{Keys}
use Rattle.wb_table.specs.declared.policy.PolicyName.{PolicyName}
use Rattle.wb_table.proofs.Tables.{arguments_begin, arguments_are, first_names_key, second_spells_number, others_give, one_more_gives, if_none}
use Rattle.wb_table.proofs.table.read_arguments.Goals as goal

-- What all arguments give is given by those that are left, at a place where this was shown of the arguments behind their number.
left_give : (policy : PolicyName) (whole words : List (List ℕ)) (number : List ℕ) (here : List (List ℕ)) (count left : ℕ) (given : Keys) → whole ≡ number ∷ words → SpellsNumber number count
    → ((after : Keys) → GivesKeys policy no_keys words after → length words ≡ count → GivesKeys policy given here after × (length here ≡ left))
    → (keys : Keys) → SpellsArguments policy whole keys → GivesKeys policy given here keys × (length here ≡ left)
left_give policy whole words number here count left given e s onward keys spelled =
    let begun = arguments_begin policy number words count keys s (subst (λ all. SpellsArguments policy all keys) e spelled) in
    onward keys begun.0 begun.1

pub returns-in_err-key-clause-none : goal.returns-in_err-key-clause-none
returns-in_err-key-clause-none c = if_none c.from_residual-in_err-key.result (λ keys spelled.
    let given = left_give c.args.policy _ _ _ _ _ _ _ c.in_ok-next.ensures.steps c.in_ok-left.ensures.found c.loop-word.invariant.onward keys spelled in
    let named = first_names_key c.args.policy c.loop-word.keys keys c.in-Some.word.now _ (subst (λ words. GivesKeys c.args.policy c.loop-word.keys words keys) c.in-Some.ensures.steps given.0) in
    c.in_err-key.ensures.none named.0 named.1)

pub returns-in_err-next-2-clause-none : goal.returns-in_err-next-2-clause-none
returns-in_err-next-2-clause-none c = if_none c.from_residual-in_err-next-2.result (λ keys spelled.
    let given = left_give c.args.policy _ _ _ _ _ _ _ c.in_ok-next.ensures.steps c.in_ok-left.ensures.found c.loop-word.invariant.onward keys spelled in
    let word = c.in-Some.word.now in
    let alone = c.in-Some.ensures.steps ∙ ap (λ words. word ∷ words) c.in_err-next-2.ensures.steps.0 in
    subst (λ words. GivesKeys c.args.policy c.loop-word.keys words keys) alone given.0)

pub returns-in_err-value-clause-none : goal.returns-in_err-value-clause-none
returns-in_err-value-clause-none c = if_none c.from_residual-in_err-value.result (λ keys spelled.
    let given = left_give c.args.policy _ _ _ _ _ _ _ c.in_ok-next.ensures.steps c.in_ok-left.ensures.found c.loop-word.invariant.onward keys spelled in
    let word = c.in-Some.word.now in
    let two = c.in-Some.ensures.steps ∙ ap (λ words. word ∷ words) c.in_ok-next-2.ensures.steps in
    let number = second_spells_number c.args.policy c.loop-word.keys keys word _ _ (subst (λ words. GivesKeys c.args.policy c.loop-word.keys words keys) two given.0) in
    c.in_err-value.ensures.none number.0 number.1)

pub returns-in_err-left-2-clause-none : goal.returns-in_err-left-2-clause-none
returns-in_err-left-2-clause-none c = if_none c.from_residual-in_err-left-2.result (λ keys spelled.
    let given = left_give c.args.policy _ _ _ _ _ _ _ c.in_ok-next.ensures.steps c.in_ok-left.ensures.found c.loop-word.invariant.onward keys spelled in
    let word = c.in-Some.word.now in
    let two = c.in-Some.ensures.steps ∙ ap (λ words. word ∷ words) c.in_ok-next-2.ensures.steps in
    let many = ap length two in
    c.in_err-left-2.ensures (omega (arith, many, given.1)))

pub loop-word-preserved : goal.loop-word-preserved
loop-word-preserved c =
    let word = c.in-Some.word.now in
    let number = c.in_ok-next-2.field-0.now in
    let rest = words_of c.next-in-Some.new.self.0.now in
    let two = c.in-Some.ensures.steps ∙ ap (λ words. word ∷ words) c.in_ok-next-2.ensures.steps in
    let many = ap length two in
    record {
      next = tt;
      finite = tt;
      onward = λ after whole all.
          let given = c.loop-word.invariant.onward after whole all in
          let others = others_give c.args.policy c.loop-word.keys after word number rest c.in_ok-key.key c.in_ok-value.value c.in_ok-key.ensures.only c.in_ok-value.ensures.found (subst (λ words. GivesKeys c.args.policy c.loop-word.keys words after) two given.0) in
          (subst (λ keys. GivesKeys c.args.policy keys rest after) (sym c.with-keys.ensures) others, omega (arith, many, given.1, c.in_ok-left-2.ensures.1));
      back = λ after others left.
          let one = one_more_gives c.args.policy c.loop-word.keys after word number rest c.in_ok-key.key c.in_ok-value.value c.in_ok-key.ensures.found c.in_ok-value.ensures.found (subst (λ keys. GivesKeys c.args.policy keys rest after) c.with-keys.ensures others) in
          c.loop-word.invariant.back after (subst (λ words. GivesKeys c.args.policy c.loop-word.keys words after) (sym two) one) (omega (arith, many, left, c.in_ok-left-2.ensures.0, c.in_ok-left-2.ensures.1));
    }

pub returns-then-left-eq0-clause-found : goal.returns-then-left-eq0-clause-found
returns-then-left-eq0-clause-found c =
    let none = c.in_default.ensures.steps.0 in
    let given = c.loop-word.invariant.back c.loop-word.keys (subst (λ words. GivesKeys c.args.policy c.loop-word.keys words c.loop-word.keys) (sym none) refl) (ap length none ∙ sym c.if-left-eq0.true) in
    subst (λ words. SpellsArguments c.args.policy words c.loop-word.keys) (sym c.in_ok-next.ensures.steps)
    (arguments_are c.args.policy _ _ _ c.loop-word.keys c.in_ok-left.ensures.found given)

pub returns-else-left-eq0-clause-none : goal.returns-else-left-eq0-clause-none
returns-else-left-eq0-clause-none c = λ keys spelled.
    let given = left_give c.args.policy _ _ _ _ _ _ _ c.in_ok-next.ensures.steps c.in_ok-left.ensures.found c.loop-word.invariant.onward keys spelled in
    let none = ap length c.in_default.ensures.steps.0 in
    absurd (omega (arith, none, given.1, c.if-left-eq0.false))
