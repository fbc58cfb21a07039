use Rattle.std.proofs.Common.{◌/◌, ◌%◌, ◌==◌, ℕ, Bool, false, Some, get_or, refl, sym, ap, ◌∙◌, arith}
use Rattle.std.specs.Int.{bit_at}
use Rattle.std.proofs.lemmas.List.{get_or_read}
use Rattle.std.proofs.lemmas.Option.{slice_get-get_or}
use Rattle.std.proofs.lemmas.Nat.Bits.{shr_and_one}
use Rattle.wb_bits.proofs.Least.{is_member-at}
use Rattle.wb_bits.proofs.Members.{within, get_or-members}
use Rattle.wb_bits.proofs.bit_set.BitSet.contains.Goals as goal

pub index-requires : goal.index-requires
index-requires c = let w = within c.self.inside c.args.self.now c.args.i c.self.view_is c.requires c.self.invariant in omega (arith, w.word, c.self.inside.words.ok.0)

pub returns : goal.returns
returns c = let w = within c.self.inside c.args.self.now c.args.i c.self.view_is c.requires c.self.invariant in
    slice_get-get_or c.args.self.now c.args.i false c.requires
    ∙ ap (λ (b : Bool). Some b) (ap (λ l. get_or l c.args.i false) (sym c.self.view_is) ∙ get_or-members c.self.inside.bound c.self.inside.words.items c.args.i w.bound
    ∙ is_member-at c.self.inside.words.items c.args.i (c.args.i / 64) (c.args.i % 64) refl refl
    ∙ ap (λ (v : ℕ). v == 1) (ap (λ (v : ℕ). bit_at v (c.args.i % 64)) (sym (get_or_read c.self.inside.words.items (c.args.i / 64) c.index.result.now w.word c.index.ensures 0)) ∙ sym (shr_and_one c.index.result.now (c.args.i % 64))))
