use Rattle.std.proofs.Common.{◌≡◌, ◌∙◌, inl, inr, List, [], Option, sym, ap, subst, arith, length}
use Rattle.wb_meta.proofs.Loaded.{IfErr-handed}
use Rattle.std.proofs.lemmas.List.Elements.{All-weaker}
use Rattle.wb_types.specs.declared.entry.Entry.{Entry}
use Rattle.wb_words.specs.declared.card.Card.{Card}
use Rattle.wb_port.specs.declared.seat.Seat.{Seat}
use Rattle.std.proofs.lemmas.List.{length-map}
use Rattle.wb_tree.specs.Mapping.{IsMapping}
use Rattle.wb_policy.specs.Law.{origins}
use Rattle.wb_devices.specs.Clean.{entries_of}
use Rattle.wb_devices.proofs.BitEntries.{length-with_bits, mapping-with_bits}
use Rattle.wb_target.specs.Opening.{opened_entry, seals_stored}
use Rattle.wb_target.proofs.Hinting.{opened_is_mapping, origins-with_bits, same_origins}
use Rattle.wb_target.proofs.Knowing.{known_mapping}
use Rattle.wb_target.proofs.opening.office_over.Goals as goal

pub new-requires : goal.new-requires
new-requires g c =
    let state = c.args.state in
    omega (
      arith,
      ap length (c.as_slice.ensures.value ∙ c.in_ok-entries.ensures.entries),
      length-map (entries_of state) (opened_entry c.args.clean),
      length-with_bits state.dirty state.tree.entries,
      c.requires.mapping.size,
    )

pub new-requires-2-clause-knows : goal.new-requires-2-clause-knows
new-requires-2-clause-knows g c =
    let state = c.args.state in
    known_mapping (λ holdings. g.P.Policy.knows c.in_ok-policy.policy holdings) state.root.geometry.cache_blocks state.root.geometry.origin_blocks c.as_slice.result.now state.tree.entries
    (ap origins (c.as_slice.ensures.value ∙ c.in_ok-entries.ensures.entries) ∙ same_origins c.args.clean (entries_of state) ∙ origins-with_bits state.dirty state.tree.entries) c.requires.mapping c.in_ok-policy.ensures.knows

pub sealed_seat-requires : goal.sealed_seat-requires
sealed_seat-requires g c =
    let state = c.args.state in
    let geometry = state.root.geometry in
    subst (IsMapping geometry.cache_blocks geometry.origin_blocks) (sym (c.as_slice-2.ensures.value ∙ c.in_ok-entries.ensures.entries)) (opened_is_mapping c.args.clean geometry.cache_blocks geometry.origin_blocks (entries_of state)
    (mapping-with_bits state.dirty geometry.cache_blocks geometry.origin_blocks state.tree.entries c.requires.mapping))

pub returns-clause-made : goal.returns-clause-made
returns-clause-made g c =
    let words = c.in_ok-seats.ensures.words in
    record {
      desk_is = c.in_ok-desk.ensures.opened;
      first = c.in_ok-policy.policy;
      begins = subst (λ (entries : List (Option Entry)). g.P.Policy.begun c.args.state.root.geometry entries c.in_ok-policy.policy) (c.as_slice.ensures.value ∙ c.in_ok-entries.ensures.entries) c.in_ok-policy.ensures.begun;
      policy = c.in_ok-desk.ensures.policy;
      many = c.in_ok-seats.ensures.many;
      words = All-weaker (λ (seat : Seat). seat.cells.value.table ≡ c.in_ok-seat.seat.cells.value.table) (λ (seat : Seat). seat.cells.value.table ≡ c.in_ok-seats.seats.watch.cells.value.table)
          (λ seat same. same ∙ sym words.1) c.in_ok-seats.seats.spare.items words.0;
      sealed = ap (λ (card : Card). card.stored) c.in_ok-seats.ensures.card ∙ c.in_ok-seat.ensures.sealed
          ∙ ap (λ (entries : List (Option Entry)). seals_stored 0 entries []) (c.as_slice-2.ensures.value ∙ c.in_ok-entries.ensures.entries);
    }

pub returns-in_err-desk-clause-refused : goal.returns-in_err-desk-clause-refused
returns-in_err-desk-clause-refused g c = IfErr-handed c.from_residual-in_err-desk.result c.in_err-desk.field-0.0 _ c.from_residual-in_err-desk.ensures.1 (
    elim c.in_err-desk.ensures.refused [
      | inl memory ↦ inl memory
      | inr bad ↦ inr (
        bad.0,
        elim bad.1 [
          | inl above ↦ inl above
          | inr own ↦ inr (c.in_ok-policy.policy, own)
        ],
      )
    ])
