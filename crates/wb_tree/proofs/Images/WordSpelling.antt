-- The entry that a word spells is the one whose word it is.
use Rattle.std.proofs.Common.{◌≡◌, ◌≤◌, ◌+◌, ◌*◌, ◌/◌, ◌%◌, ◌^◌, ◌==◌, ap, subst, refl, ℕ, zero, suc, Bool, true, false, cond, Option, Some, None, arith}
use Rattle.wb_types.specs.declared.entry.Entry.{Entry}
use Rattle.wb_format.specs.NodeWords.{entry_word}
use Rattle.wb_tree.specs.Reading.{entry_in}

entry_of_parts : ℕ → Bool → ℕ → Entry
entry_of_parts origin dirty hint = record { origin = record { 0 = origin }; dirty = dirty; hint = hint }

dirty_bit : (dirty : Bool) (hint origin : ℕ) → ((1 + 2 * cond dirty 1 0 + 2 ^ 4 * hint + 2 ^ 16 * origin) / 2 % 2 == 1) ≡ dirty
dirty_bit true hint origin = let e : (1 + 2 * 1 + 2 ^ 4 * hint + 2 ^ 16 * origin) / 2 % 2 ≡ 1 = omega arith in ap (λ n. n == 1) e
dirty_bit false hint origin = let e : (1 + 2 * 0 + 2 ^ 4 * hint + 2 ^ 16 * origin) / 2 % 2 ≡ 0 = omega arith in ap (λ n. n == 1) e

origin_bits : (dirty : Bool) (hint origin : ℕ) → hint ≤ 16 → (1 + 2 * cond dirty 1 0 + 2 ^ 4 * hint + 2 ^ 16 * origin) / 2 ^ 16 ≡ origin
origin_bits true hint origin h = omega arith
origin_bits false hint origin h = omega arith

hint_bits : (dirty : Bool) (hint origin : ℕ) → hint ≤ 16 → (1 + 2 * cond dirty 1 0 + 2 ^ 4 * hint + 2 ^ 16 * origin) / 2 ^ 4 % 2 ^ 5 ≡ hint
hint_bits true hint origin h = omega arith
hint_bits false hint origin h = omega arith

some_word : (n : ℕ) (entry : Entry) → entry_word (Some entry) ≡ suc n → entry.hint ≤ 16 → entry_in (suc n) ≡ Some entry
unfolding entry_of_parts
some_word n entry e h =
    let origin : suc n / 2 ^ 16 ≡ entry.origin.0 = subst (λ w. w / 2 ^ 16 ≡ entry.origin.0) e (origin_bits entry.dirty entry.hint entry.origin.0 h) in
    let dirty : (suc n / 2 % 2 == 1) ≡ entry.dirty = subst (λ w. (w / 2 % 2 == 1) ≡ entry.dirty) e (dirty_bit entry.dirty entry.hint entry.origin.0) in
    let hint : suc n / 2 ^ 4 % 2 ^ 5 ≡ entry.hint = subst (λ w. w / 2 ^ 4 % 2 ^ 5 ≡ entry.hint) e (hint_bits entry.dirty entry.hint entry.origin.0 h) in
    let same : Some (entry_of_parts (suc n / 2 ^ 16) (suc n / 2 % 2 == 1) (suc n / 2 ^ 4 % 2 ^ 5)) ≡ Some (entry_of_parts entry.origin.0 entry.dirty entry.hint) = cc in same

word_read : (n : ℕ) (entry : Entry) → entry_word (Some entry) ≡ n → entry.hint ≤ 16 → entry_in n ≡ Some entry
word_read zero entry e h = absurd (omega arith)
word_read (suc n) entry e h = some_word n entry e h

-- what the word of an entry spells
pub entry_in-word : (entry : Option Entry) → ((one : Entry) → entry ≡ Some one → one.hint ≤ 16) → entry_in (entry_word entry) ≡ entry
entry_in-word None h = refl
entry_in-word (Some entry) h = word_read (entry_word (Some entry)) entry refl (h entry refl)
