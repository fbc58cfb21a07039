-- No step on the desk, no access and no tick changes the sizes of the cache; and each block that a desk has mapped is one of its origin.
use Rattle.std.proofs.Common.{◌≡◌, ◌∙◌, ◌<◌, ◌+◌, inl, inr, ℕ, zero, suc, Bool, true, false, List, [], ◌∷◌, Option, Some, None, refl, ap, subst, if◌then◌else◌}
use Rattle.std.proofs.lemmas.Bool.{cases_eq}
use Rattle.wb_types.specs.declared.entry.Entry.{Entry}
use Rattle.wb_types.specs.declared.number.CBlock.{CBlock}
use Rattle.wb_types.specs.declared.number.OBlock.{OBlock}
use Rattle.wb_tree.specs.Mapping.{entry_at}
use Rattle.wb_policy.specs.Law.{Holdings}
use Rattle.wb_policy.specs.declared.order.Order.{Order}
use Rattle.wb_policy.specs.declared.situation.Settled.{Settled}
use Rattle.wb_policy.specs.declared.situation.Tick.{Tick}
use Rattle.wb_desk.specs.Desks.{DeskState, DeskInvariant, IsLive}
use Rattle.wb_desk.specs.Commits.{commit_ended}
use Rattle.wb_desk.specs.Entries.{MayUnmap}
use Rattle.wb_desk.specs.Settling.{AreSettled, OrderIsGiven, IsTicked}
use Rattle.wb_tasks.specs.declared.step.DeskStep.{DeskStep}
use Rattle.wb_tasks.specs.declared.step.DeskStep.TheVariants.{Map, Unmap, ReleaseOrder, Arrive, Ask, BeginCommit, EndCommit, BreakCommit}
use Rattle.wb_tasks.specs.declared.step.Got.{Got}
use Rattle.wb_tasks.specs.declared.step.Got.TheVariants.{Done, Began, Refused, Ticket, Served}
use Rattle.wb_devices.specs.declared.running.RunningCommit.{RunningCommit}
use Rattle.wb_stage.specs.Asking.{DidMap, DidUnmap, DidRelease, IsGivenUp, order_of, ended}
use Rattle.wb_stage.specs.Stages.{DidAsk, DidArrive, DidAskWith, DidLead, EndsWith, is_all_done}
use Rattle.wb_stage.specs.declared.share.Share.{Share}

module _ {P : Type 0} where
  abbrev blocks : DeskState P → ℕ
  blocks d = d.geometry.origin_blocks

  -- where it is so of a desk that was led on, and of one that was left, it is so
  in_either : {A : Type 0} (d d' : DeskState P) → (A → blocks d' ≡ blocks d) → ((A → ⊥) → d' ≡ d) → blocks d' ≡ blocks d
  in_either d d' so left = elim (cases_eq (blocks d') (blocks d)) [
    | inl same ↦ same
    | inr other ↦ ap blocks (left (λ a. other (so a)))
  ]

  -- ---- steps of tasks

  pub unmapped_keeps : (without_entry : P → ℕ → P) (b : OBlock) (d d' : DeskState P) → DidUnmap without_entry b d d' → blocks d' ≡ blocks d
  unmapped_keeps without_entry b d d' did = in_either {A = MayUnmap d b} d d' (λ may. ap blocks (did.0 may).1) did.1

  given_up_keeps : (order : Option Order) (d d' : DeskState P) → IsGivenUp order d d' → blocks d' ≡ blocks d
  given_up_keeps None d d' is = ap blocks is
  given_up_keeps (Some order) d d' did = in_either {A = IsLive d order} d d' (λ live. ap blocks (did.0 live)) did.1

  pub released_keeps : (held : List Order) (b : OBlock) (d d' : DeskState P) → DidRelease held b d d' → blocks d' ≡ blocks d
  released_keeps held b d d' did = given_up_keeps (order_of b held) d d' did

  map_keeps : (with_entry : P → ℕ → ℕ → P) (b : OBlock) (c : CBlock) (got : Got) (d d' : DeskState P) → DidMap with_entry b c got d d' → blocks d' ≡ blocks d
  map_keeps with_entry b c Done d d' did = ap blocks did.1.1
  map_keeps with_entry b c (Refused refusal) d d' did = ap blocks did
  map_keeps with_entry b c got d d' did = absurd did

  lead_keeps : (most : ℕ) (got : Got) (d d' : DeskState P) (commit commit' : Option RunningCommit) → DidLead most got d commit d' commit' → blocks d' ≡ blocks d
  lead_keeps most (Began nodes) d d' commit commit' did = ap blocks did.1.4.1.state
  lead_keeps most (Refused refusal) d d' commit commit' did = ap blocks did.1
  lead_keeps most got d d' commit commit' did = absurd did

  arrive_keeps : (most : ℕ) (got : Got) (d d' : DeskState P) (commit commit' : Option RunningCommit) → DidArrive most got d commit d' commit' → blocks d' ≡ blocks d
  arrive_keeps most Ticket d d' commit commit' did = ap blocks did.2
  arrive_keeps most (Began nodes) d d' commit commit' did = lead_keeps most (Began nodes) d d' commit commit' did
  arrive_keeps most (Refused refusal) d d' commit commit' did = lead_keeps most (Refused refusal) d d' commit commit' did
  arrive_keeps most got d d' commit commit' did = absurd did

  ask_keeps : (share : Share) (most : ℕ) (got : Got) (d d' : DeskState P) (commit commit' : Option RunningCommit) → DidAskWith share most got d commit d' commit' → blocks d' ≡ blocks d
  ask_keeps share most Served d d' commit commit' did = ap blocks did.1
  ask_keeps share most (Began nodes) d d' commit commit' did = lead_keeps most (Began nodes) d d' commit commit' did.1
  ask_keeps share most (Refused refusal) d d' commit commit' did = ap blocks did.1
  ask_keeps share most got d d' commit commit' did = absurd did

  ended_keeps : (d : DeskState P) → blocks (ended d) ≡ blocks d
  ended_keeps d = by_test d.space.committing
    where
      by_test : (t : Bool) → blocks (if t then commit_ended d else d) ≡ blocks d
      by_test true = refl
      by_test false = refl

  end_keeps : (all_done : Bool) (d d' : DeskState P) (commit commit' : Option RunningCommit) → EndsWith all_done d commit d' commit' → blocks d' ≡ blocks d
  end_keeps true d d' commit commit' did = ap blocks did.0 ∙ ended_keeps d
  end_keeps false d d' commit commit' did = ap blocks did.0

  pub asked_keeps : (with_entry : P → ℕ → ℕ → P) (without_entry : P → ℕ → P) (held : List Order) (step : DeskStep) (share : Share) (got : Got) (d d' : DeskState P) (commit commit' : Option RunningCommit)
      → DidAsk with_entry without_entry held step share got d commit d' commit' → blocks d' ≡ blocks d
  asked_keeps with_entry without_entry held (Map b c) share got d d' commit commit' did = map_keeps with_entry b c got d d' did.0
  asked_keeps with_entry without_entry held (Unmap b) share got d d' commit commit' did = unmapped_keeps without_entry b d d' did.0
  asked_keeps with_entry without_entry held (ReleaseOrder b) share got d d' commit commit' did = released_keeps held b d d' did.0
  asked_keeps with_entry without_entry held (Arrive most) share got d d' commit commit' did = arrive_keeps most got d d' commit commit' did
  asked_keeps with_entry without_entry held (Ask most) share got d d' commit commit' did = ask_keeps share most got d d' commit commit' did
  asked_keeps with_entry without_entry held (BeginCommit most) share got d d' commit commit' did = absurd did
  asked_keeps with_entry without_entry held EndCommit share got d d' commit commit' did = end_keeps (is_all_done commit) d d' commit commit' did
  asked_keeps with_entry without_entry held BreakCommit share got d d' commit commit' did = ap blocks did.0

  -- ---- accesses and ticks

  given_keeps : (d : DeskState P) (order : Option Order) (new : DeskState P) → OrderIsGiven d order new → blocks new ≡ blocks d
  given_keeps d None new is = ap blocks is
  given_keeps d (Some order) new (inl given) = ap blocks given.2
  given_keeps d (Some order) new (inr kept) = ap blocks kept.1

  pub settled_keeps : (ordered : P → Settled → Option Order) (settled : P → Settled → P) (d : DeskState P) (accesses : List OBlock) (new : DeskState P) → AreSettled ordered settled d accesses new → blocks new ≡ blocks d
  settled_keeps ordered settled d [] new is = ap blocks is
  settled_keeps ordered settled d (b ∷ bs) new all =
      settled_keeps ordered settled all.0 bs new all.2 ∙ given_keeps (record d { policy = settled d.policy all.1.0 }) (ordered d.policy all.1.0) all.0 all.1.2

  pub ticked_keeps : (cleaned : P → Tick → ℕ → Option Order) (ticked : P → Tick → ℕ → P) (dirty : List (CBlock × OBlock)) (most given : ℕ) (d new : DeskState P) → IsTicked cleaned ticked dirty most given d new → blocks new ≡ blocks d
  ticked_keeps cleaned ticked dirty zero given d new is = ap blocks is
  ticked_keeps cleaned ticked dirty (suc most) given d new (inl ends) = ap blocks ends.3
  ticked_keeps cleaned ticked dirty (suc most) given d new (inr more) =
      ticked_keeps cleaned ticked dirty most (given + 1) more.0 new more.2 ∙ ap blocks more.1.2.2.2

  -- ---- blocks that are mapped

  -- each is one of the words that lie beside the desk
  pub blocks_there : (knows : P → Holdings → Type 0) (d : DeskState P) (count : ℕ) → blocks d ≡ count → DeskInvariant knows d → (c : ℕ) (e : Entry) → entry_at d.tree c ≡ Some e → e.origin.0 < count
  blocks_there knows d count same holds c e is = subst (λ (n : ℕ). e.origin.0 < n) same (holds.mapping.within c e is).0
