-- Whether an event applies is decided, and so is whether a migration or a replacement may start under an order that is kept or given.
use Rattle.std.proofs.Common.{◌≡◌, ◌≢◌, ◌≤◌, ◌<◌, ◌+◌, ◌^◌, inl, inr, ℕ, zero, suc, Bool, true, false, List, [], ◌∷◌, Option, Some, None, Contains, refl, sym, ap, subst, arith, length, slice_get}
use Rattle.wb_tasks.specs.declared.step.Migration.{Migration}
use Rattle.std.specs.Prelude.{All}
use Rattle.std.proofs.lemmas.Bool.{cases_eq, cases_lt}
use Rattle.std.proofs.lemmas.List.Elements.{All-cons, All-nil, All-from_recursion, recursion_from_All}
use Rattle.wb_types.specs.declared.mode.Mode.{Mode}
use Rattle.wb_types.specs.declared.mode.Mode.TheVariants.{Writeback, Writethrough, Passthrough}
use Rattle.wb_types.specs.declared.mode.Dev.{Dev}
use Rattle.wb_types.specs.declared.mode.Dev.TheVariants.{Metadata, Cache, Origin}
use Rattle.wb_disk.specs.Device.{History, entries}
use Rattle.wb_disk.specs.Crash.{Choice, Applies, named_position, chosen_position}
use Rattle.wb_disk.specs.Failing.{MayFail}
use Rattle.wb_disk.specs.declared.crash_choice.NamedContent.{NamedContent}
use Rattle.wb_types.specs.declared.number.CBlock.{CBlock}
use Rattle.wb_types.specs.declared.number.OBlock.{OBlock}
use Rattle.wb_types.proofs.Lists.{Contains-first, Contains-behind}
use Rattle.wb_policy.specs.declared.order.Order.{Order}
use Rattle.wb_policy.specs.declared.order.Order.TheVariants.{Promote as PromoteOrder, Replace as ReplaceOrder, Demote as DemoteOrder, Clean as CleanOrder}
use Rattle.wb_policy.specs.Law.{Holdings, IsUnmapped, IsMappedAt}
use Rattle.wb_space.specs.declared.block.Block.{Block}
use Rattle.wb_space.specs.declared.block.Block.TheVariants.{Free, Reserved}
use Rattle.wb_orders.specs.declared.live_order.LiveOrder.{LiveOrder}
use Rattle.wb_orders.specs.Named.{first_of, second_of}
use Rattle.wb_orders.specs.Orders.{cost_of, MayGive}
use Rattle.wb_desk.specs.Desks.{DeskState, holdings, sectors_asked, IsGivenLawfully}
use Rattle.wb_tasks.specs.declared.step.Migration.TheVariants.{Promote, Demote, Clean}
use Rattle.wb_tasks.specs.Plan.{device_of}
use Rattle.wb_tasks.specs.declared.step.Want.{Want}
use Rattle.wb_tasks.specs.declared.step.Want.TheVariants.{Device}
use Rattle.wb_devices.specs.declared.devices.Devices.{Devices}
use Rattle.wb_devices.specs.Moving.{device_in}
use Rattle.wb_promise.specs.declared.job.Job.{Job}
use Rattle.wb_promise.specs.declared.job.Job.TheVariants.{Open, Invalidate}
use Rattle.wb_promise.specs.States.{Phase, Stands, Gone, Opens}
use Rattle.wb_promise.specs.Happenings.{MayFailAt, MayStop, MayOrder, MayFollow, KeepsMigration, KeepsReplacement, IsOutOfPlace, order_for}
use Rattle.wb_runs.proofs.Spelling.{Decided, two_of, at_most}
use Rattle.wb_runs.proofs.Lists.{first_or}
use Rattle.wb_runs.proofs.Desks.{one_order, found_where}

one_device : (a b : Dev) → Decided (a ≡ b)
one_device Metadata Metadata = inl refl
one_device Cache Cache = inl refl
one_device Origin Origin = inl refl
one_device a b = inr (λ e. absurd (cc))

of_all : {X : Type 0} (P : X → Type 0) → ((x : X) → Decided (P x)) → (xs : List X) → Decided (All P xs)
of_all P one [] = inl (All-nil P)
of_all P one (x ∷ xs) = elim (one x) [
  | inl here ↦ elim (of_all P one xs) [
    | inl rest ↦ inl (All-cons P x xs here rest)
    | inr none ↦ inr (λ a. none (All-from_recursion P xs (recursion_from_All P (x ∷ xs) a).1))
  ]
  | inr other ↦ inr (λ a. other (recursion_from_All P (x ∷ xs) a).0)
]

below : (a b : ℕ) → Decided (a < b)
below a b = elim (cases_lt a b) [
  | inl less ↦ inl less
  | inr more ↦ inr (λ l. omega (arith, l, more))
]

if_device : (a b : Dev) (X : Type 0) → Decided X → Decided (a ≡ b → X)
if_device a b X x = elim (one_device a b) [
  | inl same ↦ elim x [
    | inl y ↦ inl (λ e. y)
    | inr n ↦ inr (λ f. n (f same))
  ]
  | inr other ↦ inl (λ e. absurd (other e))
]

from_first : (device : Dev) (choice : Choice) (hs : List History) → ((at : ℕ) (h : History) → slice_get hs at ≡ Some h → chosen_position device choice (0 + at) h < length (entries h)) → (at : ℕ) (h : History) → slice_get hs at ≡ Some h → chosen_position device choice at h < length (entries h)
from_first device choice hs f at h e = let same : 0 + at ≡ at = omega arith in subst (λ (k : ℕ). chosen_position device choice k h < length (entries h)) same (f at h e)

to_first : (device : Dev) (choice : Choice) (hs : List History) → ((at : ℕ) (h : History) → slice_get hs at ≡ Some h → chosen_position device choice at h < length (entries h)) → (at : ℕ) (h : History) → slice_get hs at ≡ Some h → chosen_position device choice (0 + at) h < length (entries h)
to_first device choice hs f at h e = let same : at ≡ 0 + at = omega arith in subst (λ (k : ℕ). chosen_position device choice k h < length (entries h)) same (f at h e)

each_there : (device : Dev) (choice : Choice) (from : ℕ) (hs : List History) → Decided ((at : ℕ) (h : History) → slice_get hs at ≡ Some h → chosen_position device choice (from + at) h < length (entries h))
each_there device choice from [] = inl (λ at h e. absurd (cc))
each_there device choice from (g ∷ gs) = elim (two_of (below (chosen_position device choice (from + 0) g) (length (entries g))) (each_there device choice (suc from) gs)) [
  | inl both ↦ inl (one both.0 both.1)
  | inr none ↦ inr (λ f. none (f 0 g refl, λ at h e. subst (λ (k : ℕ). chosen_position device choice k h < length (entries h)) (moved at) (f (suc at) h e)))
]
  where
    moved : (at : ℕ) → from + suc at ≡ suc from + at
    moved at = omega arith

    one : chosen_position device choice (from + 0) g < length (entries g) → ((at : ℕ) (h : History) → slice_get gs at ≡ Some h → chosen_position device choice (suc from + at) h < length (entries h)) →
        (at : ℕ) (h : History) → slice_get (g ∷ gs) at ≡ Some h → chosen_position device choice (from + at) h < length (entries h)
    one here rest zero h e = let same : g ≡ h = cc in subst (λ (x : History). chosen_position device choice (from + 0) x < length (entries x)) same here
    one here rest (suc at) h e = subst (λ (k : ℕ). chosen_position device choice k h < length (entries h)) (sym (moved at)) (rest at h e)

applies : (device : Dev) (choice : Choice) (sectors : List History) → Decided (Applies device choice sectors)
applies device choice sectors = elim (two_of (of_all (λ (name : NamedContent). name.device ≡ device → name.sector < length sectors) (λ name. if_device name.device device (name.sector < length sectors) (below name.sector (length sectors))) choice.named) (each_there device choice 0 sectors)) [
  | inl both ↦ inl (record { inside = both.0; there = from_first device choice sectors both.1 })
  | inr none ↦ inr (λ a. none (a.inside, to_first device choice sectors a.there))
]

pub may_stop : (choice : Choice) (devices : Devices (List History)) → Decided (MayStop choice devices)
may_stop choice devices = elim (two_of (applies Metadata choice devices.metadata) (two_of (applies Cache choice devices.cache) (applies Origin choice devices.origin))) [
  | inl all ↦ inl (record { metadata = all.0; cache = all.1.0; origin = all.1.1 })
  | inr none ↦ inr (λ m. none (m.metadata, (m.cache, m.origin)))
]

may_fail : (device : Dev) (choice : Choice) (sectors : ℕ) → Decided (MayFail device choice sectors)
may_fail device choice sectors = elim (two_of (of_all (λ (name : NamedContent). name.device ≡ device) (λ name. one_device name.device device) choice.named)
    (two_of (of_all (λ (name : NamedContent). name.sector < sectors) (λ name. below name.sector sectors) choice.named) (of_all (λ (name : NamedContent). named_position device choice.named name.sector 0 ≤ 1) (λ name. at_most (named_position device choice.named name.sector 0) 1) choice.named))) [
      | inl all ↦ inl (record { here = all.0; inside = all.1.0; two = all.1.1 })
      | inr none ↦ inr (λ m. none (m.here, (m.inside, m.two)))
    ]

pub may_fail_at : (devices : Devices (List History)) (choice : Choice) (next : Want) → Decided (MayFailAt devices choice next)
may_fail_at devices choice (Device step) = may_fail (device_of step) choice (length (device_in (device_of step) devices))
may_fail_at devices choice next = inr (λ m. m)

is_passthrough : (mode : Mode) → Decided (mode ≡ Passthrough)
is_passthrough Writeback = inr (λ e. absurd (cc))
is_passthrough Writethrough = inr (λ e. absurd (cc))
is_passthrough Passthrough = inl refl

pub out_of_place : {P A : Type 0} (phase : Phase P A) (job : Job) → Decided (IsOutOfPlace phase job)
out_of_place (Stands t) (Open mode second) = elim (cases_eq t.words.fail 0) [
  | inl fine ↦ inl fine
  | inr failed ↦ inr failed
]
out_of_place Gone (Open mode second) = inr (λ o. o)
out_of_place (Opens m r) (Open mode second) = inr (λ o. o)
out_of_place (Stands t) (Invalidate block) = elim (is_passthrough t.desk.mode) [
  | inl past ↦ inr (λ o. o past)
  | inr other ↦ inl other
]
out_of_place (Stands t) job = inr (λ o. o tt)
out_of_place phase job = inl (λ f. f)

-- ---- orders

-- whether an actor has an order
pub has_order : (orders : List Order) (order : Order) → Decided (Contains orders order)
has_order [] order = inr (λ c. omega (arith, c.1))
has_order (o ∷ os) order = elim (one_order order o) [
  | inl e ↦ inl (subst (λ (p : Order). Contains (o ∷ os) p) (sym e) (Contains-first o os))
  | inr n ↦ elim (has_order os order) [
    | inl c ↦ inl (Contains-behind o os order c)
    | inr m ↦ inr (λ c. first_or o order os ⊥ c (λ e. n e) m)
  ]
]

-- whether an actor has an order of which something holds that is decided
some_order : (Holds : Order → Type 0) → ((order : Order) → Decided (Holds order)) → (orders : List Order) → Decided ((order : Order) × Contains orders order × Holds order)
some_order Holds holds [] = inr (λ s. omega (arith, s.1.1))
some_order Holds holds (o ∷ os) = elim (holds o) [
  | inl here ↦ inl (o, Contains-first o os, here)
  | inr not ↦ elim (some_order Holds holds os) [
    | inl s ↦ inl (s.0, Contains-behind o os s.0 s.1, s.2)
    | inr none ↦ inr (λ s. first_or o s.0 os ⊥ s.1 (λ e. not (subst Holds e s.2)) (λ c. none (s.0, c, s.2)))
  ]
]

not_passthrough : (mode : Mode) → Decided (mode ≢ Passthrough)
not_passthrough mode = elim (is_passthrough mode) [
  | inl past ↦ inr (λ n. n past)
  | inr other ↦ inl other
]

is_free_block : (o : Option Block) → Decided (o ≡ Some Free)
is_free_block (Some Free) = inl refl
is_free_block o = inr (λ e. cc)

is_reserved_block : (o : Option Block) → Decided (o ≡ Some Reserved)
is_reserved_block (Some Reserved) = inl refl
is_reserved_block o = inr (λ e. cc)

is_vacant : (o : Option (Option LiveOrder)) → Decided (o ≡ Some None)
is_vacant None = inr (λ e. cc)
is_vacant (Some None) = inl refl
is_vacant (Some (Some order)) = inr (λ e. cc)

is_idle : (o : Option Bool) → Decided (o ≡ Some false)
is_idle None = inr (λ e. cc)
is_idle (Some true) = inr (λ e. cc)
is_idle (Some false) = inl refl

is_other : (o : Option ℕ) (block : ℕ) → Decided (Some o ≢ Some (Some block))
is_other None block = inl (λ e. cc)
is_other (Some b) block = elim (cases_eq b block) [
  | inl e ↦ inr (λ n. n (ap (λ (k : ℕ). Some (Some k)) e))
  | inr n ↦ inl (λ e. n (let same : Some b ≡ Some block = cc in cc))
]

is_unmapped : (mapping : Holdings) (block : ℕ) → Decided (IsUnmapped mapping block)
is_unmapped [] block = inl (λ at e. cc)
is_unmapped (o ∷ os) block = elim (two_of (is_other o block) (is_unmapped os block)) [
  | inl both ↦ inl (each both.0 both.1)
  | inr none ↦ inr (λ u. none (u 0, λ at. u (suc at)))
]
  where
    each : (Some o ≢ Some (Some block)) → IsUnmapped os block → IsUnmapped (o ∷ os) block
    each here rest zero = here
    each here rest (suc at) = rest at

-- whether the desk may give an order that takes this cache block
may_give : {P : Type 0} (desk : DeskState P) (c : CBlock) (order : Order) → Decided (MayGive desk.orders c order (sectors_asked desk.geometry order) desk.threshold)
may_give desk c order = elim (two_of (two_of (is_vacant (slice_get desk.orders.slots c.0)) (two_of (is_idle (slice_get desk.orders.busy (first_of order).0)) (is_idle (slice_get desk.orders.busy (second_of order).0))))
    (two_of (at_most (cost_of desk.orders.slots + sectors_asked desk.geometry order) desk.threshold) (below (desk.orders.given + 1) (2 ^ 64)))) [
      | inl d ↦ inl (record { vacant = d.0.0; idle = (d.0.1.0, d.0.1.1); room = d.1.0; countable = d.1.1 })
      | inr none ↦ inr (λ give. none ((give.vacant, give.idle), (give.room, give.countable)))
    ]

-- whether a promotion's order may be given
may_promote : {P : Type 0} (desk : DeskState P) (block : OBlock) (c : CBlock) → Decided (MayOrder desk (λ cache. PromoteOrder block c))
may_promote desk block c = elim (two_of (two_of (not_passthrough desk.mode) (two_of (is_free_block (slice_get desk.space.blocks c.0)) (is_unmapped (holdings desk) block.0))) (may_give desk c (PromoteOrder block c))) [
  | inl d ↦ inl (c, record { mode = d.0.0; lawful = (refl, d.0.1.0, d.0.1.1); give = d.1 })
  | inr none ↦ inr (λ may. none (
    (may.1.mode, (may.1.lawful.1, may.1.lawful.2)),
    subst (λ (k : CBlock). MayGive desk.orders k (PromoteOrder block c) (sectors_asked desk.geometry (PromoteOrder block c)) desk.threshold) may.1.lawful.0 may.1.give,
  ))
]

-- whether one of a block's order may be given that takes the cache block where it stands
may_where : {P : Type 0} (desk : DeskState P) (block : OBlock) (order : CBlock → Order) → ((cache : CBlock) → IsMappedAt (holdings desk) block.0 cache.0 → IsGivenLawfully desk cache (order cache)) →
    ((cache : CBlock) → IsGivenLawfully desk cache (order cache) → IsMappedAt (holdings desk) block.0 cache.0) → Decided (MayOrder desk order)
may_where desk block order to from = elim (two_of (not_passthrough desk.mode)
    (found_where (holdings desk) block.0 (λ c. MayGive desk.orders (record { 0 = c }) (order (record { 0 = c })) (sectors_asked desk.geometry (order (record { 0 = c }))) desk.threshold) (λ c. may_give desk (record { 0 = c }) (order (record { 0 = c }))))) [
      | inl d ↦ inl (record { 0 = d.1.0 }, record { mode = d.0; lawful = to (record { 0 = d.1.0 }) d.1.1; give = d.1.2 })
      | inr none ↦ inr (λ may. none (may.1.mode, (may.0.0, from may.0 may.1.lawful, may.1.give)))
    ]

-- whether a migration's order may be given
pub may_order : {P : Type 0} (desk : DeskState P) (migration : Migration) (block : OBlock) → Decided (MayOrder desk (λ cache. order_for migration block))
may_order desk (Promote c) block = may_promote desk block c
may_order desk Demote block = may_where desk block (λ cache. DemoteOrder block) (λ cache at. at) (λ cache at. at)
may_order desk Clean block = may_where desk block (λ cache. CleanOrder block) (λ cache at. at) (λ cache at. at)

-- whether a replacement's may: the block that is to follow has to be unmapped
pub may_replace : {P : Type 0} (desk : DeskState P) (old new : OBlock) → Decided (MayOrder desk (λ cache. ReplaceOrder old new cache))
may_replace desk old new = elim (is_unmapped (holdings desk) new.0) [
  | inl bare ↦ may_where desk old (λ cache. ReplaceOrder old new cache) (λ cache at. (refl, at, bare)) (λ cache lawful. lawful.1)
  | inr held ↦ inr (λ may. held may.1.lawful.2)
]

-- ---- orders under which a job starts again

-- the order is the replacement by which this block follows on this cache block
is_followed : (block : OBlock) (cache : CBlock) (order : Order) → Decided ((old : OBlock) × (order ≡ ReplaceOrder old block cache))
is_followed block cache (ReplaceOrder v x c) = elim (one_order (ReplaceOrder v x c) (ReplaceOrder v block cache)) [
  | inl same ↦ inl (v, same)
  | inr other ↦ inr (λ f. other (let e = f.1 in cc))
]
is_followed block cache order = inr (λ f. absurd (let e = f.1 in cc))

may_follow : {P : Type 0} (desk : DeskState P) (kept : List Order) (block : OBlock) (cache : CBlock) → Decided (MayFollow desk kept block cache)
may_follow desk kept block cache = elim (two_of (some_order (λ o. (old : OBlock) × (o ≡ ReplaceOrder old block cache)) (is_followed block cache) kept) (is_reserved_block (slice_get desk.space.blocks cache.0))) [
  | inl d ↦ inl (d.0.2.0, subst (λ (o : Order). Contains kept o) d.0.2.1 d.0.1, d.1)
  | inr none ↦ inr (λ m. none ((ReplaceOrder m.0 block cache, m.1, (m.0, refl)), m.2))
]

-- whether a migration may start under an order that its actor keeps
pub keeps_migration : {P : Type 0} (desk : DeskState P) (kept : List Order) (migration : Migration) (block : OBlock) → Decided (KeepsMigration desk kept migration block)
keeps_migration desk kept (Promote c) block = elim (has_order kept (PromoteOrder block c)) [
  | inl own ↦ inl (inl own)
  | inr none ↦ elim (may_follow desk kept block c) [
    | inl follows ↦ inl (inr follows)
    | inr not ↦ inr (λ k. elim k [ inl own ↦ none own | inr follows ↦ not follows ])
  ]
]
keeps_migration desk kept Demote block = has_order kept (DemoteOrder block)
keeps_migration desk kept Clean block = has_order kept (CleanOrder block)

-- whether a replacement may start again
pub keeps_replacement : {P : Type 0} (desk : DeskState P) (kept : List Order) (old new : OBlock) → Decided (KeepsReplacement desk kept old new)
keeps_replacement desk kept old new = elim (found_where (holdings desk) old.0 (λ c. Contains kept (ReplaceOrder old new (record { 0 = c }))) (λ c. has_order kept (ReplaceOrder old new (record { 0 = c })))) [
  | inl d ↦ inl (record { 0 = d.0 }, d.2, d.1)
  | inr none ↦ inr (λ k. none (k.0.0, k.2, k.1))
]
