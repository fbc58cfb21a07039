-- What a caller was told of a block gives its state.
use Rattle.std.proofs.Common.{◌≡◌, Option, Some, None, refl, ap, ◌∙◌}
use Rattle.std.specs.Option.{option_map}
use Rattle.wb_space.specs.declared.block.Block.{Block}
use Rattle.wb_space.specs.declared.block.Block.TheVariants.{Free, Mapped, Reserved, Quarantined}
use Rattle.wb_space.specs.declared.holding.Holding.{Holding}
use Rattle.wb_space.specs.declared.holding.Holding.TheVariants.{Free as HeldFree, Mapped as HeldMapped, Reserved as HeldReserved}
use Rattle.wb_space.specs.Blocks.{shown_holding}

some_free : (o : Option Block) → option_map shown_holding o ≡ Some HeldFree → o ≡ Some Free
some_free None e = absurd (cc)
some_free (Some Free) e = refl
some_free (Some Mapped) e = absurd (cc)
some_free (Some Reserved) e = absurd (cc)
some_free (Some (Quarantined claimed early)) e = absurd (cc)

some_mapped : (o : Option Block) → option_map shown_holding o ≡ Some HeldMapped → o ≡ Some Mapped
some_mapped None e = absurd (cc)
some_mapped (Some Free) e = absurd (cc)
some_mapped (Some Mapped) e = refl
some_mapped (Some Reserved) e = absurd (cc)
some_mapped (Some (Quarantined claimed early)) e = absurd (cc)

some_reserved : (o : Option Block) → option_map shown_holding o ≡ Some HeldReserved → o ≡ Some Reserved
some_reserved None e = absurd (cc)
some_reserved (Some Free) e = absurd (cc)
some_reserved (Some Mapped) e = absurd (cc)
some_reserved (Some Reserved) e = refl
some_reserved (Some (Quarantined claimed early)) e = absurd (cc)

pub free_at : (o : Option Block) (h : Holding) → option_map shown_holding o ≡ Some h → h ≡ HeldFree → o ≡ Some Free
free_at o h e f = some_free o (e ∙ ap (λ (x : Holding). Some x) f)

pub mapped_at : (o : Option Block) (h : Holding) → option_map shown_holding o ≡ Some h → h ≡ HeldMapped → o ≡ Some Mapped
mapped_at o h e f = some_mapped o (e ∙ ap (λ (x : Holding). Some x) f)

pub reserved_at : (o : Option Block) (h : Holding) → option_map shown_holding o ≡ Some h → h ≡ HeldReserved → o ≡ Some Reserved
reserved_at o h e f = some_reserved o (e ∙ ap (λ (x : Holding). Some x) f)
