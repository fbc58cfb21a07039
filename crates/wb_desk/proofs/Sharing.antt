-- A ticket is served only by a commit that began after it.
use Rattle.std.proofs.Common.{◌≡◌, ◌≤◌, ◌<◌, ◌+◌, inl, inr, ◌⊎◌, ℕ, Bool, true, false, List, [], ◌∷◌, None, refl, sym, ap, ◌∙◌, arith}
use Rattle.std.proofs.lemmas.Bool.{true≢false}
use Rattle.wb_policy.specs.Law.{Holdings}
use Rattle.wb_desk.specs.declared.desk.sharing.Arrival.{Arrival}
use Rattle.wb_desk.specs.declared.desk.sharing.Arrival.TheVariants.{Lead, Ticket}
use Rattle.wb_desk.specs.declared.desk.sharing.Asked.{Asked}
use Rattle.wb_desk.specs.declared.desk.sharing.Asked.TheVariants.{Served, Wait, Lead as Leads}
use Rattle.wb_desk.specs.Desks.{DeskState}
use Rattle.wb_desk.specs.Calls.{reserved, released, next_order_taken}
use Rattle.wb_desk.specs.Entries.{mapped, unmapped}
use Rattle.wb_desk.specs.Commits.{commit_broken}
use Rattle.wb_desk.specs.Safety.{DeskCall, TakeOrder, Tell, GiveOrder, Release, Map, Unmap, BeginCommit, EndCommit, BreakCommit, Does, AreCalls, desk_after}
use Rattle.wb_desk.specs.Sharing.{IsTicket, CommitCovers, HasArrived, HasAsked, HasEnd, HasWholeCommit, BeginsOrStays}
use Rattle.wb_desk.proofs.Safe.{begun_does}

-- whether a commit runs, and how many have ended
abbrev line : {P : Type 0} → DeskState P → Bool × ℕ
line d = (d.space.committing, d.ended)

-- what a call does to that: it begins a commit, ends it, or leaves it
abbrev Turns : {P : Type 0} → DeskState P → DeskCall → DeskState P → Type 0
Turns d call new =
    ((call ≡ BeginCommit) × (line d ≡ (false, d.ended)) × (line new ≡ (true, d.ended)))
    ⊎ (((call ≡ EndCommit) × (line d ≡ (true, d.ended)) × (line new ≡ (false, d.ended + 1))) ⊎ (line new ≡ line d))

module _ {P : Type 0} where
  runs : (d : DeskState P) (b : Bool) (n : ℕ) → line d ≡ (b, n) → d.space.committing ≡ b
  runs d b n e = ap (λ (x : Bool × ℕ). x.0) e

  counts : (d : DeskState P) (b : Bool) (n : ℕ) → line d ≡ (b, n) → d.ended ≡ n
  counts d b n e = ap (λ (x : Bool × ℕ). x.1) e

  left : (d old new : DeskState P) → line old ≡ line d → new ≡ old → line new ≡ line d
  left d old new same e = ap (λ (x : DeskState P). line x) e ∙ same

  turn : (d new : DeskState P) (call : DeskCall) → Does d call new → Turns d call new
  turn d new TakeOrder does = inr (inr (left d (next_order_taken d) new refl does))
  turn d new Tell does = inr (inr (ap (λ (x : DeskState P). line x) does))
  turn d new (GiveOrder cache order waits) does = inr (inr (left d (reserved d cache order waits) new refl does.1))
  turn d new (Release cache) does = inr (inr (left d (released d cache) new refl does.1))
  turn d new (Map b cache) does = inr (inr (left d (mapped d cache new.tree new.policy) new refl does.2))
  turn d new (Unmap b cache) does = inr (inr (left d (unmapped d cache new.tree new.policy) new refl does.3))
  turn d new BeginCommit does = inl (refl, ap (λ (b : Bool). (b, d.ended)) does.0.idle, ap (λ (x : DeskState P). line x) does.2.1)
  turn d new EndCommit does = inr (inl (refl, ap (λ (b : Bool). (b, d.ended)) does.0, ap (λ (x : DeskState P). line x) does.1))
  turn d new BreakCommit does = inr (inr (left d (commit_broken d) new refl does))

  never_less : (d new : DeskState P) (call : DeskCall) → Does d call new → d.ended ≤ new.ended
  never_less d new call does = elim (turn d new call does) [
    | inl begun ↦ omega (arith, counts new true d.ended begun.2)
    | inr other ↦ elim other [
      | inl ended ↦ omega (arith, counts new false (d.ended + 1) ended.2)
      | inr same ↦ omega (arith, counts new d.space.committing d.ended same)
    ]
  ]

  -- ---- lists of calls

  module _ (knows : P → Holdings → Type 0) where
    pub served_stays : (d : DeskState P) (calls : List (DeskCall × DeskState P)) (number : ℕ) → AreCalls knows d calls → CommitCovers d number → CommitCovers (desk_after d calls) number
    served_stays d [] number are served = served
    served_stays d (c ∷ calls) number are served = served_stays c.1 calls number are.2 (omega (arith, served, never_less d c.1 c.0 are.1))

    -- more have ended
    has_end : (d : DeskState P) (calls : List (DeskCall × DeskState P)) → AreCalls knows d calls → d.ended < (desk_after d calls).ended → HasEnd calls
    has_end d [] are more = absurd (omega (arith, more))
    has_end d (c ∷ calls) are more = elim (turn d c.1 c.0 are.1) [
      | inl begun ↦ inr (has_end c.1 calls are.2 (omega (arith, more, counts c.1 true d.ended begun.2)))
      | inr other ↦ elim other [
        | inl ended ↦ inl ended.0
        | inr same ↦ inr (has_end c.1 calls are.2 (omega (arith, more, counts c.1 d.space.committing d.ended same)))
      ]
    ]

    -- and none ran
    whole_from_idle : (d : DeskState P) (calls : List (DeskCall × DeskState P)) → AreCalls knows d calls → d.space.committing ≡ false → d.ended < (desk_after d calls).ended → HasWholeCommit calls
    whole_from_idle d [] are idle more = absurd (omega (arith, more))
    whole_from_idle d (c ∷ calls) are idle more = elim (turn d c.1 c.0 are.1) [
      | inl begun ↦ inl (begun.0, has_end c.1 calls are.2 (omega (arith, more, counts c.1 true d.ended begun.2)))
      | inr other ↦ elim other [
        | inl ended ↦ absurd (true≢false (sym (runs d true d.ended ended.1) ∙ idle))
        | inr same ↦ inr (whole_from_idle c.1 calls are.2 (runs c.1 d.space.committing d.ended same ∙ idle) (omega (arith, more, counts c.1 d.space.committing d.ended same)))
      ]
    ]

    -- or more than the one that ran
    whole_from_running : (d : DeskState P) (calls : List (DeskCall × DeskState P)) → AreCalls knows d calls → d.space.committing ≡ true → d.ended + 1 < (desk_after d calls).ended → HasWholeCommit calls
    whole_from_running d [] are running more = absurd (omega (arith, more))
    whole_from_running d (c ∷ calls) are running more = elim (turn d c.1 c.0 are.1) [
      | inl begun ↦ absurd (true≢false (sym running ∙ runs d false d.ended begun.1))
      | inr other ↦ elim other [
        | inl ended ↦ inr (whole_from_idle c.1 calls are.2 (runs c.1 false (d.ended + 1) ended.2) (omega (arith, more, counts c.1 false (d.ended + 1) ended.2)))
        | inr same ↦ inr (whole_from_running c.1 calls are.2 (runs c.1 d.space.committing d.ended same ∙ running) (omega (arith, more, counts c.1 d.space.committing d.ended same)))
      ]
    ]

    pub served_by_later : (d : DeskState P) (calls : List (DeskCall × DeskState P)) (number : ℕ) → AreCalls knows d calls → IsTicket d number → CommitCovers (desk_after d calls) number → HasWholeCommit calls
    served_by_later d calls number are ticket served = whole_from_running d calls are ticket.runs (omega (arith, ticket.next, served))

    pub broken_stays : (d : DeskState P) (calls : List (DeskCall × DeskState P)) → AreCalls knows d calls → d.broken ≡ true → (desk_after d calls).broken ≡ true
    broken_stays d [] are broken = broken
    broken_stays d (c ∷ calls) are broken = broken_stays c.1 calls are.2 (by c.0 are.1)
      where
        by : (call : DeskCall) → Does d call c.1 → c.1.broken ≡ true
        by TakeOrder does = ap (λ (x : DeskState P). x.broken) does ∙ broken
        by Tell does = ap (λ (x : DeskState P). x.broken) does ∙ broken
        by (GiveOrder cache order waits) does = ap (λ (x : DeskState P). x.broken) does.1 ∙ broken
        by (Release cache) does = ap (λ (x : DeskState P). x.broken) does.1 ∙ broken
        by (Map b cache) does = ap (λ (x : DeskState P). x.broken) does.2 ∙ broken
        by (Unmap b cache) does = ap (λ (x : DeskState P). x.broken) does.3 ∙ broken
        by BeginCommit does = ap (λ (x : DeskState P). x.broken) does.2.1 ∙ broken
        by EndCommit does = ap (λ (x : DeskState P). x.broken) does.1 ∙ broken
        by BreakCommit does = ap (λ (x : DeskState P). x.broken) does

  -- ---- contracts

  pub arriving_does : (hint_of : P → ℕ → ℕ) (d new : DeskState P) (arrival : Arrival) → HasArrived hint_of d arrival new → BeginsOrStays d new
  arriving_does hint_of d new (Lead image) arrived = inl (begun_does hint_of None d image new arrived.begun)
  arriving_does hint_of d new (Ticket number) arrived = inr arrived.1

  pub asking_does : (hint_of : P → ℕ → ℕ) (d new : DeskState P) (number : ℕ) (asked : Asked) → HasAsked hint_of d number asked new → BeginsOrStays d new
  asking_does hint_of d new number (Served receipt) asked = inr asked.2
  asking_does hint_of d new number (Leads image) asked = inl (begun_does hint_of None d image new asked.1.begun)
  asking_does hint_of d new number Wait asked = inr asked.3
