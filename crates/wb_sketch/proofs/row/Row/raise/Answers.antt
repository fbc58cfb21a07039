use Rattle.std.proofs.Common.{◌≡◌, ◌<◌, ◌+◌, ◌*◌, ◌/◌, ◌%◌, ℕ, List, length, get_or, sym, ap, ◌∙◌, arith}
use Rattle.std.proofs.lemmas.List.{get_or_read}
use Rattle.wb_sketch.specs.Packed.{counter_in, counters_in}
use Rattle.wb_sketch.proofs.Counters.{raised_at-yes, raised_at-more, raised_at-full}
use Rattle.wb_sketch.proofs.Packing.{get_or-values_in, length-values_in, values_in-set}
use Rattle.wb_sketch.proofs.row.Row.raise.Goals.{else-counter_in-least-via-then-counter_in-least+else-least-lt15, else-counter_in-least-via-else-counter_in-least}
use Rattle.wb_sketch.proofs.row.Row.raise.Goals as goal

-- the word that was read, and the counter in it
word_read : (words : List ℕ) (place word : ℕ) → place < 16 * length words → word ≡ get_or words (place / 16) word → word ≡ get_or words (place / 16) 0
word_read words place word within e = get_or_read words (place / 16) word (omega arith) e 0

counter_read : (words : List ℕ) (place word : ℕ) → place < 16 * length words → word ≡ get_or words (place / 16) word → get_or (counters_in words) place 0 ≡ counter_in word (place % 16)
counter_read words place word within e =
    get_or-values_in counter_in 16 words place 0 within ∙ ap (λ (w : ℕ). counter_in w (place % 16)) (sym (word_read words place word within e))

pub index-word-requires : goal.index-word-requires
index-word-requires c = omega (arith, ap length c.self.view_is, length-values_in counter_in 16 c.self.inside.words.items, c.self.inside.words.ok.0)

pub index_mut-requires : goal.index_mut-requires
index_mut-requires c = omega (arith, ap length c.self.view_is, length-values_in counter_in 16 c.self.inside.words.items, c.self.inside.words.ok.0)

pub returns-then-least-lt15 : goal.returns-then-least-lt15
returns-then-least-lt15 c =
    let within : c.args.place < 16 * length c.self.inside.words.items = omega (arith, ap length c.self.view_is, length-values_in counter_in 16 c.self.inside.words.items) in
    let least : counter_in c.index-word.result.now (c.args.place % 16) ≡ c.args.least = sym c.counter_in.ensures.value ∙ c.if-counter_in-least.true in
    let read : get_or (counters_in c.self.inside.words.items) c.args.place 0 ≡ c.args.least =
    counter_read c.self.inside.words.items c.args.place c.index-word.result.now within c.index-word.ensures ∙ least in
    rw (← c.self.view_is)
    (values_in-set counter_in 16 c.self.inside.words.items c.args.place c.raised.result (c.args.least + 1) (omega arith) within
    (c.raised.ensures.here ∙ ap (λ (n : ℕ). n + 1) least)
    (λ other n. c.raised.ensures.others other n
    ∙ ap (λ (w : ℕ). counter_in w other) (word_read c.self.inside.words.items c.args.place c.index-word.result.now within c.index-word.ensures))
    ∙ sym (raised_at-yes c.args.least c.args.place (counters_in c.self.inside.words.items) read c.if-least-lt15.true))

pub returns-else-counter_in-least : goal.returns-else-counter_in-least
returns-else-counter_in-least c =
    let within : c.args.place < 16 * length c.self.inside.words.items = omega (arith, ap length c.self.view_is, length-values_in counter_in 16 c.self.inside.words.items) in
    let read : get_or (counters_in c.self.inside.words.items) c.args.place 0 ≡ c.counter_in.result =
    counter_read c.self.inside.words.items c.args.place c.index-word.result.now within c.index-word.ensures ∙ sym c.counter_in.ensures.value in
    rw (← c.self.view_is) (
    elim c.else-counter_in-least.branch [
      | else-counter_in-least-via-then-counter_in-least+else-least-lt15 w ↦ sym (raised_at-full c.args.least c.args.place (counters_in c.self.inside.words.items) w.if-least-lt15.false)
      | else-counter_in-least-via-else-counter_in-least w ↦ sym (raised_at-more c.args.least c.args.place (counters_in c.self.inside.words.items) (λ e. w.if-counter_in-least.false (sym read ∙ e)))
    ])
