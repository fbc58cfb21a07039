-- When a run of the server ended well.
use Rattle.std.specs.Prelude.{◌≡◌, ℕ, List, Some, Result, Ok, IfErr, slice_get}
use Rattle.wb_types.specs.declared.refusal.Refusal.{Refusal}
use Rattle.wb_nbd.specs.declared.broken.Broken.{Broken}
use Rattle.wb_nbd.specs.declared.broken.Broken.TheVariants.{Gone}
use Rattle.wbnbd.specs.declared.beside.Told.{Told}
use Rattle.wbnbd.specs.declared.beside.Told.TheVariants.{Served}

-- For who served the connection did not break, but that its client may have gone between two requests; and no flush at its end was refused.
abbrev pub EndedWell : Result Told Refusal → Type 0
EndedWell (Ok (Served connection flushed)) = IfErr connection (λ broken. broken ≡ Gone) × IfErr flushed (λ refusal. ⊥)
EndedWell told = Unit {0}

-- somebody served
abbrev pub DidServe : List (Result Told Refusal) → Type 0
DidServe told = (i : ℕ) × (connection : Result (Unit {0}) Broken) × (flushed : Result (Unit {0}) Refusal) × (slice_get told i ≡ Some (Ok (Served connection flushed)))

-- no flush at a server's end was refused
abbrev pub DidFlush : Result Told Refusal → Type 0
DidFlush (Ok (Served connection flushed)) = IfErr flushed (λ refusal. ⊥)
DidFlush told = Unit {0}
