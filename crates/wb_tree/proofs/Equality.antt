-- Entries that compare equal are the same.
use Rattle.std.proofs.Common.{◌≡◌, ◌∙◌, ℕ, Bool, true, false, Option, Some, None, ap, sym, subst, rules}
use Rattle.std.specs.Option.{option_eq}
use borrow.Author.Tests.{tests}
use Rattle.wb_types.specs.declared.entry.Entry.{Entry}
use Rattle.wb_types.specs.contracts.entry.EntryPartialEq.TheImpl as the_impl

entry_of_fields : ℕ → Bool → ℕ → Entry
entry_of_fields origin dirty hint = record { origin = record { 0 = origin }; dirty = dirty; hint = hint }

same_fields : (x y : Entry) → x.origin.0 ≡ y.origin.0 → x.dirty ≡ y.dirty → x.hint ≡ y.hint → x ≡ y
unfolding entry_of_fields
same_fields x y a b c = let e : entry_of_fields x.origin.0 x.dirty x.hint ≡ entry_of_fields y.origin.0 y.dirty y.hint = cc in e

same_entry : (x y : Entry) → the_impl.eq-value.it x y ≡ true → x ≡ y
same_entry x y h = same_fields x y (search (rules, tests)) (search (rules, tests)) (search (rules, tests))

-- what compares equal to an entry is that entry
pub same_option : (o : Option Entry) (e : Entry) → option_eq the_impl.eq-value.it o (Some e) ≡ true → o ≡ Some e
same_option None e h = absurd cc
same_option (Some x) e h = ap Some (same_entry x e h)

itself : (e : Entry) → the_impl.eq-value.it e e ≡ true
itself e = search (rules, tests)

-- what does not compare equal to an entry is not that entry
pub not_option : (o : Option Entry) (e : Entry) → option_eq the_impl.eq-value.it o (Some e) ≡ false → o ≡ Some e → ⊥
not_option o e h same =
    let here : option_eq the_impl.eq-value.it (Some e) (Some e) ≡ false = subst (λ (p : Option Entry). option_eq the_impl.eq-value.it p (Some e) ≡ false) same h in
    absurd (let both : true ≡ false = sym (itself e) ∙ here in cc)
