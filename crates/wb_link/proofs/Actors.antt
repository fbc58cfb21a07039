-- Two actors never have the same, whatever step one of them takes; and what one keeps is what the others rely on.
use Rattle.std.proofs.Common.{◌≡◌, ◌≢◌, ◌⊎◌, inl, inr, ℕ, zero, suc, Bool, true, false, Option, Some, None, refl, sym, ap, subst, ◌∙◌, arith}
use Rattle.std.proofs.lemmas.Bool.{cases_eq}
use Rattle.wb_disk.specs.Device.{Content}
use Rattle.wb_contents.specs.Volume.{Volume, changed}
use Rattle.wb_contents.specs.Conditions.{IsUnnamed}
use Rattle.wb_contents.proofs.Positions.{changed_same, changed_other}
use Rattle.wb_link.specs.Tables.{Order, Job, Suspending, Answer, Finished, Want, Share, Own, Leave, Disown, Read_all, Write_all, Begin, Begin_clean, Sync_cache_device, Sync_origin_device, End_running, Map_to, Unmap_from, Unmap_plain, Give_up, End, Got, Done, Flag, Fault, Script, abstract_after, abstract_after_fault, after_flag, abstract_want}
use Rattle.wb_link.specs.World.{Block, Mapped, Reserved, Retained, removed, following, NamesBlock, ShareNoBlock, Shared, Held, Nothing, Shares, Owns, AbstractActor, effect, held_after, order_after, leads_after, task_after, actor_after, is_alone, job_alone, drops, job_drops, AbstractGives}
use Rattle.wb_link.proofs.Views.{Holds}
use Rattle.wb_link.proofs.Acts.{Keeps}
use Rattle.wb_link.proofs.Link.{IsKept, Ordered, Turns, Good, Placing, Sound, MayEnd, Ready, Owes, Others, Disjoint, RestsAt, Next, Safe}
use Rattle.wb_link.proofs.Effects.{KeepsShared, SameDesk, write_desk, sync_cached_desk, sync_based_desk, begun_turns, ended_turns}

-- what the lock words say of one other actor
abbrev pub WinsOver : AbstractActor → Want → Got → Type 0
WinsOver y (Share b) Done = y.held ≢ Owns b
WinsOver y (Own b) Done = (y.held ≢ Owns b) × (y.held ≢ Shares b)
WinsOver y w got = Unit {0}

abbrev pub HoldsNot : AbstractActor → ℕ → Type 0
HoldsNot y b = (y.held ≢ Owns b) × (y.held ≢ Shares b)

held_left : (x y : AbstractActor) (s : Shared) (w : Want) (got : Got) → WinsOver y w got → ((b : ℕ) → x.held ≡ Owns b → HoldsNot y b) → (b : ℕ) → held_after x.held w got ≡ Owns b → HoldsNot y b
held_left x y s (Share c) Done wins i b e = absurd (cc)
held_left x y s (Own c) Done wins i b e = let is : c ≡ b = cc in subst (λ (v : ℕ). HoldsNot y v) is wins
held_left x y s (Leave c) got wins i b e = absurd (cc)
held_left x y s (Disown c) got wins i b e = absurd (cc)
held_left x y s w got wins i b e = i b e

held_right : (x y : AbstractActor) (s : Shared) (w : Want) (got : Got) → WinsOver y w got → ((b : ℕ) → y.held ≡ Owns b → HoldsNot x b) → (b : ℕ) → y.held ≡ Owns b → (held_after x.held w got ≢ Owns b) × (held_after x.held w got ≢ Shares b)
held_right x y s (Share c) Done wins i b e = (λ f. absurd (cc), λ f. let is : c ≡ b = cc in wins (e ∙ ap (λ v. Owns v) (sym is)))
held_right x y s (Own c) Done wins i b e = (λ f. let is : c ≡ b = cc in wins.0 (e ∙ ap (λ v. Owns v) (sym is)), λ f. absurd (cc))
held_right x y s (Leave c) got wins i b e = (λ f. absurd (cc), λ f. absurd (cc))
held_right x y s (Disown c) got wins i b e = (λ f. absurd (cc), λ f. absurd (cc))
held_right x y s w got wins i b e = i b e

-- this step ends no demotion
abbrev pub Stays : Want → Type 0
Stays (Unmap_from o) = ⊥
Stays w = Unit {0}

pub order_was : (order : Option Order) (w : Want) (p : Order) → Stays w → order_after order w ≡ Some p → order ≡ Some p
order_was order (Map_to o) p st e = absurd (cc)
order_was order (Unmap_from o) p st e = absurd st
order_was order (Give_up o) p st e = absurd (cc)
order_was order w p st e = e

-- what is left of an order names no more than it did
abbrev pub Sub : Order → Order → Type 0
Sub p o = (p.cache ≡ o.cache) × ((b : ℕ) → NamesBlock p b → NamesBlock o b)

pub follower_is : (cache : ℕ) (next : Option ℕ) (p : Order) → following cache next ≡ Some p → (p.cache ≡ cache) × (next ≡ Some p.block) × (p.next ≡ None)
follower_is cache None p e = absurd (cc)
follower_is cache (Some b) p e = let same : record { block = b; cache = cache; next = None } ≡ p = cc in (ap (λ (v : Order). v.cache) (sym same), ap (λ (v : Order). Some v.block) same, ap (λ (v : Order). v.next) (sym same))

follower_names : (o p : Order) → (o.next ≡ Some p.block) → (p.next ≡ None) → (b : ℕ) → NamesBlock p b → NamesBlock o b
follower_names o p e n b (inl m) = inr (e ∙ ap (λ v. Some v) m)
follower_names o p e n b (inr m) = let bad : None ≡ Some b = sym n ∙ m in absurd (cc)

pub order_from : (x : AbstractActor) (s : Shared) (w : Want) (p : Order) → Ready w x s → order_after x.order w ≡ Some p → (o : Order) × (x.order ≡ Some o) × Sub p o
order_from x s (Map_to o) p r e = absurd (cc)
order_from x s (Unmap_from o) p r e = let is = follower_is o.cache o.next p e in (o, r.0, (is.0, follower_names o p is.1 is.2))
order_from x s (Give_up o) p r e = absurd (cc)
order_from x s w p r e = (p, e, (refl, λ b n. n))

pub apart_left : (p o q : Order) → Sub p o → ShareNoBlock o q → ShareNoBlock p q
apart_left p o q s a = (λ b m n. a.0 b (s.1 b m) n, λ e. a.1 (sym s.0 ∙ e))

apart_right : (p o q : Order) → Sub q o → ShareNoBlock p o → ShareNoBlock p q
apart_right p o q s a = (λ b m n. a.0 b m (s.1 b n), λ e. a.1 (e ∙ s.0))

leads_was : (s : Shared) (leads : Bool) (w : Want) (got : Got) → AbstractGives s w got → leads_after leads w got ≡ true → (leads ≡ true) ⊎ (s.committing ≡ false)
leads_was s leads (Begin ticket) Done g e = inr g.0
leads_was s leads Begin_clean Done g e = inr g
leads_was s leads End_running got g e = absurd (cc)
leads_was s leads w got g e = inl e

-- a task goes on with its job
fault_on : (script : Script) (w : Want) → (abstract_after_fault script w).job ≡ script.job
fault_on script (Read_all location b os) = refl
fault_on script w = refl

flag_on : (script : Script) (f : Bool) → (after_flag script f).job ≡ script.job
flag_on script true = refl
flag_on script false = refl

pub job_on : (script : Script) (got : Got) → (abstract_after script got).job ≡ script.job
job_on script Done = refl
job_on script (Flag f) = flag_on script f
job_on script (Fault lands) = fault_on script (abstract_want script)
job_on script got = refl

-- a task that is alone was so
pub alone_was : (script : Script) (w : Want) (got : Got) → is_alone (task_after script w got) ≡ true → job_alone script.job ≡ true
alone_was script (End answer) got e = absurd (cc)
alone_was script w got e = sym (ap (λ (j : Job). job_alone j) (job_on script got)) ∙ e

pub alone_on : (script : Script) (w : Want) (got : Got) (later : Script) → task_after script w got ≡ Some later → job_alone script.job ≡ true → is_alone (task_after script w got) ≡ true
alone_on script (End answer) got later e n = absurd (cc)
alone_on script w got later e n = ap (λ (j : Job). job_alone j) (job_on script got) ∙ n

pub owes_alone : (job : Job) (answer : Answer) (t : Shared) (e : Volume) → job_alone job ≡ true → Owes job (End answer) t e → (t.fail ≡ true) ⊎ (e.live ≡ true)
owes_alone Suspending answer t e n o = o
owes_alone job answer t e n o = absurd (cc)

pub may_end : (answer : Answer) (held : Held) (s : Shared) → MayEnd answer held s → (held ≡ Nothing) ⊎ (s.fail ≡ true)
may_end Finished held s h = inl h
may_end answer held s h = h

pub drops_was : (script : Script) (w : Want) (got : Got) → drops (task_after script w got) ≡ true → job_drops script.job ≡ true
drops_was script (End answer) got e = absurd (cc)
drops_was script w got e = sym (ap (λ (j : Job). job_drops j) (job_on script got)) ∙ e

-- it has no task left where it was answered
pub task_was : (script : Script) (w : Want) (got : Got) → task_after script w got ≡ None → (answer : Answer) × (w ≡ End answer)
task_was script (End answer) got e = (answer, refl)
task_was script w got e = absurd (cc)

pub no_task : (y : AbstractActor) (script : Script) → y.task ≡ Some script → y.task ≡ None → ⊥
no_task y script e f = let bad : Some script ≡ None = sym e ∙ f in absurd (cc)

pub disjoint_left : (x y : AbstractActor) (script : Script) (s : Shared) (w : Want) (got : Got) → Ready w x s → AbstractGives s w got → x.task ≡ Some script → WinsOver y w got → (y.leads ≡ true → s.committing ≡ true) → Disjoint x y → Disjoint (actor_after x script w got) y
disjoint_left x y script s w got ready g task wins l i = record {
  alone = λ e. i.alone (ap (λ (o : Option Script). is_alone o) task ∙ alone_was script w got e);
  held = held_left x y s w got wins i.held;
  order = λ p q e f. let had = order_from x s w p ready e in apart_left p had.0 q had.2 (i.order had.0 q had.1 f);
  leads = λ e f. elim (leads_was s x.leads w got g e) [ inl m ↦ i.leads m f | inr m ↦ let busy = l f in absurd (cc) ];
}

pub disjoint_right : (x y : AbstractActor) (script : Script) (s : Shared) (w : Want) (got : Got) → Ready w x s → AbstractGives s w got → x.task ≡ Some script → WinsOver y w got → (y.leads ≡ true → s.committing ≡ true) → Disjoint y x → Disjoint y (actor_after x script w got)
disjoint_right x y script s w got ready g task wins l i = record {
  alone = λ e. absurd (no_task x script task (i.alone e));
  held = held_right x y s w got wins i.held;
  order = λ p q e f. let had = order_from x s w q ready f in apart_right p had.0 q had.2 (i.order p had.0 e had.1);
  leads = λ e f. elim (leads_was s x.leads w got g f) [ inl m ↦ i.leads e m | inr m ↦ let busy = l e in absurd (cc) ];
}

-- A commit runs as long as somebody leads it.

busy_desk : (s t : Shared) → SameDesk s t → s.committing ≡ true → t.committing ≡ true
busy_desk s t i e = i.committing ∙ e

pub other_busy : (x : AbstractActor) (s : Shared) (job : Job) (buffer : ℕ → Content) (w : Want) (got : Got) → (x.leads ≡ true → ⊥) → Ready w x s → s.committing ≡ true → (effect s job buffer w got).committing ≡ true
other_busy x s job buffer (Write_all location b os) got n r e = busy_desk s _ (write_desk s job buffer location b os got) e
other_busy x s job buffer (Begin ticket) Done n r e = refl
other_busy x s job buffer Begin_clean Done n r e = refl
other_busy x s job buffer Sync_cache_device got n r e = busy_desk s _ (sync_cached_desk s job buffer got) e
other_busy x s job buffer Sync_origin_device got n r e = busy_desk s _ (sync_based_desk s job buffer got) e
other_busy x s job buffer End_running got n r e = absurd (n r)
other_busy x s job buffer w got n r e = e

pub leader_busy : (x : AbstractActor) (s : Shared) (job : Job) (buffer : ℕ → Content) (w : Want) (got : Got) → (x.leads ≡ true → s.committing ≡ true) → leads_after x.leads w got ≡ true → (effect s job buffer w got).committing ≡ true
leader_busy x s job buffer (Write_all location b os) got l e = busy_desk s _ (write_desk s job buffer location b os got) (l e)
leader_busy x s job buffer (Begin ticket) Done l e = refl
leader_busy x s job buffer Begin_clean Done l e = refl
leader_busy x s job buffer Sync_cache_device got l e = busy_desk s _ (sync_cached_desk s job buffer got) (l e)
leader_busy x s job buffer Sync_origin_device got l e = busy_desk s _ (sync_based_desk s job buffer got) (l e)
leader_busy x s job buffer End_running got l e = absurd (cc)
leader_busy x s job buffer w got l e = l e

-- the block of an order that goes on
own_desk : (s t : Shared) (k : ℕ) → SameDesk s t → Turns (s.blocks k) (t.blocks k)
own_desk s t k i = inl (ap (λ f. f k) i.blocks)

pub own_state : (x : AbstractActor) (s : Shared) (job : Job) (buffer : ℕ → Content) (w : Want) (got : Got) (p : Order) → Stays w → Ready w x s → (x.order ≡ Some p → drops x.task ≡ false) → order_after x.order w ≡ Some p → Ordered (s.blocks p.cache) → Turns (s.blocks p.cache) ((effect s job buffer w got).blocks p.cache)
own_state x s job buffer (Write_all location b os) got p st r f e i = own_desk s _ p.cache (write_desk s job buffer location b os got)
own_state x s job buffer (Begin ticket) Done p st r f e i = begun_turns (s.blocks p.cache) i
own_state x s job buffer Begin_clean Done p st r f e i = begun_turns (s.blocks p.cache) i
own_state x s job buffer Sync_cache_device got p st r f e i = own_desk s _ p.cache (sync_cached_desk s job buffer got)
own_state x s job buffer Sync_origin_device got p st r f e i = own_desk s _ p.cache (sync_based_desk s job buffer got)
own_state x s job buffer End_running got p st r f e i = ended_turns (s.blocks p.cache) i
own_state x s job buffer (Map_to o) got p st r f e i = absurd (cc)
own_state x s job buffer (Unmap_from o) got p st r f e i = absurd st
own_state x s job buffer (Unmap_plain b k) got p st r f e i = let free = r.0 in let not = f e in absurd (cc)
own_state x s job buffer (Give_up o) got p st r f e i = absurd (cc)
own_state x s job buffer w got p st r f e i = inl refl

pub is_false : (v : Bool) → (v ≡ true → ⊥) → v ≡ false
is_false true m = absurd (m refl)
is_false false m = refl

map_desk : (s t : Shared) → SameDesk s t → t.mapping ≡ s.mapping
map_desk s t i = i.mapping

begin_map : (s : Shared) (job : Job) (buffer : ℕ → Content) (ticket : Option ℕ) (got : Got) → (effect s job buffer (Begin ticket) got).mapping ≡ s.mapping
begin_map s job buffer ticket Done = refl
begin_map s job buffer ticket got = refl

suspend_map : (s : Shared) (job : Job) (buffer : ℕ → Content) (got : Got) → (effect s job buffer Begin_clean got).mapping ≡ s.mapping
suspend_map s job buffer Done = refl
suspend_map s job buffer got = refl

pub own_mapping : (x : AbstractActor) (s : Shared) (job : Job) (buffer : ℕ → Content) (w : Want) (got : Got) (p : Order) → Stays w → Ready w x s → (x.order ≡ Some p → drops x.task ≡ false) → order_after x.order w ≡ Some p → (effect s job buffer w got).mapping ≡ s.mapping
own_mapping x s job buffer (Write_all location b os) got p st r f e = map_desk s _ (write_desk s job buffer location b os got)
own_mapping x s job buffer (Begin ticket) got p st r f e = begin_map s job buffer ticket got
own_mapping x s job buffer Begin_clean got p st r f e = suspend_map s job buffer got
own_mapping x s job buffer Sync_cache_device got p st r f e = map_desk s _ (sync_cached_desk s job buffer got)
own_mapping x s job buffer Sync_origin_device got p st r f e = map_desk s _ (sync_based_desk s job buffer got)
own_mapping x s job buffer (Map_to o) got p st r f e = absurd (cc)
own_mapping x s job buffer (Unmap_from o) got p st r f e = absurd st
own_mapping x s job buffer (Unmap_plain b k) got p st r f e = let free = r.0 in let not = f e in absurd (cc)
own_mapping x s job buffer w got p st r f e = refl

pub turned : (b c : Block) → Ordered b → Turns b c → Ordered c
turned b c i (inl e) = subst (λ (v : Block). Ordered v) (sym e) i
turned b c i (inr (k, inl m)) = inr m
turned b c i (inr (k, inr m)) = inl (inl m)

fixed : (b c : Block) → (b ≡ Reserved) ⊎ (b ≡ Mapped) → Turns b c → c ≡ b
fixed b c i (inl e) = e
fixed b c (inl r) (inr (k, m)) = let bad : Reserved ≡ Retained k.0 = sym r ∙ k.1 in absurd (cc)
fixed b c (inr r) (inr (k, m)) = let bad : Mapped ≡ Retained k.0 = sym r ∙ k.1 in absurd (cc)

to_reserved : (b c : Block) (m : Option ℕ) → Turns b c → c ≡ Reserved → (b ≡ Reserved → m ≡ None) → (IsKept b → m ≡ None) → m ≡ None
to_reserved b c m (inl e) r i j = i (sym e ∙ r)
to_reserved b c m (inr k) r i j = j k.0

to_kept : (b c : Block) (m : Option ℕ) → Turns b c → IsKept c → (IsKept b → m ≡ None) → m ≡ None
to_kept b c m (inl e) k j = j (k.0, sym e ∙ k.1)
to_kept b c m (inr n) k j = j n.0

to_mapped : (b c : Block) → Turns b c → c ≡ Mapped → b ≡ Mapped
to_mapped b c (inl e) r = sym e ∙ r
to_mapped b c (inr (k, inl n)) r = let bad : Mapped ≡ Retained n.0 = sym r ∙ n.1 in absurd (cc)
to_mapped b c (inr (k, inr n)) r = let bad : Mapped ≡ Reserved = sym r ∙ n in absurd (cc)

pub placing_on : (s t : Shared) (p : Order) → Turns (s.blocks p.cache) (t.blocks p.cache) → t.mapping p.block ≡ s.mapping p.block → ((b : ℕ) → p.next ≡ Some b → t.mapping b ≡ s.mapping b) → Placing s p → Placing t p
placing_on s t p b m x i = (
  λ e. m ∙ to_reserved (s.blocks p.cache) (t.blocks p.cache) (s.mapping p.block) b e i.0 i.2,
  λ e. m ∙ i.1 (to_mapped (s.blocks p.cache) (t.blocks p.cache) b e),
  λ e. m ∙ to_kept (s.blocks p.cache) (t.blocks p.cache) (s.mapping p.block) b e i.2,
  λ c n. x c n ∙ i.3 c n,
)

-- Its own order after a step: it goes on, or a demotion of a replacement has made it one of the block that is to follow.

removed_as : (next : Option ℕ) (b : ℕ) → next ≡ Some b → removed next ≡ Retained false
removed_as next b e = ap removed e

pub own_ordered : (x : AbstractActor) (s : Shared) (job : Job) (buffer : ℕ → Content) (w : Want) (got : Got) (q : Order) → Ready w x s → ((p : Order) → x.order ≡ Some p → drops x.task ≡ false) → ((p : Order) → x.order ≡ Some p → Ordered (s.blocks p.cache)) → order_after x.order w ≡ Some q → Ordered ((effect s job buffer w got).blocks q.cache)
own_ordered x s job buffer (Unmap_from o) got q r d was f = let is = follower_is o.cache o.next q f in inr (false, ap (changed s.blocks o.cache (removed o.next)) is.0 ∙ changed_same s.blocks o.cache (removed o.next) ∙ removed_as o.next q.block is.1)
own_ordered x s job buffer w got q r d was f = let had = order_was x.order w q tt f in turned (s.blocks q.cache) _ (was q had) (own_state x s job buffer w got q tt r (d q) f (was q had))

pub own_placing : (x : AbstractActor) (s : Shared) (job : Job) (buffer : ℕ → Content) (w : Want) (got : Got) (q : Order) → Ready w x s → ((p : Order) → x.order ≡ Some p → drops x.task ≡ false) → ((p : Order) → x.order ≡ Some p → Ordered (s.blocks p.cache)) → ((p : Order) → x.order ≡ Some p → Placing s p) → order_after x.order w ≡ Some q → Placing (effect s job buffer w got) q
own_placing x s job buffer (Unmap_from o) got q r d was at f =
    let is = follower_is o.cache o.next q f in
    let now : changed s.blocks o.cache (removed o.next) q.cache ≡ Retained false = ap (changed s.blocks o.cache (removed o.next)) is.0 ∙ changed_same s.blocks o.cache (removed o.next) ∙ removed_as o.next q.block is.1 in (
      λ e. absurd (cc),
      λ e. absurd (cc),
      λ e. elim (cases_eq q.block o.block) [ inl m ↦ ap (changed s.mapping o.block None) m ∙ changed_same s.mapping o.block None | inr n ↦ changed_other s.mapping o.block q.block None n ∙ (at o r.0).3 q.block is.1 ],
      λ b n. let bad : None ≡ Some b = sym is.2 ∙ n in absurd (cc),
    )
own_placing x s job buffer w got q r d was at f =
    let had = order_was x.order w q tt f in
    let map = own_mapping x s job buffer w got q tt r (d q) f in
    placing_on s (effect s job buffer w got) q (own_state x s job buffer w got q tt r (d q) f (was q had)) (ap (λ h. h q.block) map) (λ b n. ap (λ h. h b) map) (at q had)

-- What another relies on.

not_owned : (x y : AbstractActor) (b : ℕ) → Disjoint x y → Holds y.held b → x.held ≢ Owns b
not_owned x y b i h e = go y.held refl h where
  go : (held : Held) → y.held ≡ held → Holds held b → ⊥
  go Nothing f h = absurd h
  go (Shares c) f h = (i.held b e).1 (f ∙ ap (λ v. Shares v) h)
  go (Owns c) f h = (i.held b e).0 (f ∙ ap (λ v. Owns v) h)

sound_reserved : (b : Block) (m c r : ℕ → Option ℕ) (k : ℕ) → b ≡ Reserved → Sound b m c r k → IsUnnamed m k
sound_reserved b m c r k e i = let j = subst (λ (v : Block). Sound v m c r k) e i in j.0

pub others_of : (size a b : ℕ) (x y : AbstractActor) (s t : Shared) (d e : Volume) → b ≢ a → Good size s d → Disjoint x y → (is_alone x.task ≡ false) → (is_alone y.task ≡ false) → (s.fail ≡ true → t.fail ≡ true) → ((p : Order) → y.order ≡ Some p → drops x.task ≡ false) → (y.leads ≡ true → s.committing ≡ true) → ((p : Order) → y.order ≡ Some p → Ordered (s.blocks p.cache)) →
    KeepsShared x s t → Keeps a x s.committing d e → Others b y s d t e
others_of size a b x y s t d e n g i xn yn fails dr l stands ks kd = record {
  fail = fails;
  live = kd.live xn;
  mode = kd.mode;
  alone = λ m. absurd (cc);
  seal = λ c h. ks.seal c (not_owned x y c i h);
  block = λ c h. kd.block c (not_owned x y c i h);
  location = λ p f. kd.location (dr p f) p.block (λ q m v. (i.order q p m f).0 p.block (inl v) (inl refl));
  state = λ p f r. fixed (s.blocks p.cache) (t.blocks p.cache) r (ks.state (dr p f) p.cache (λ q m v. (i.order q p m f).1 v) (inl r));
  cached = λ p f m. kd.cached p.cache (λ q r v. (i.order q p r f).1 v) (subst (λ (v : ℕ → Option ℕ). IsUnnamed v p.cache) g.agrees.mapping (sound_reserved (s.blocks p.cache) s.mapping s.committed s.running p.cache m (g.sound p.cache)));
  commit = λ f. kd.commit (l f) (is_false x.leads (λ m. i.leads m f));
  ticket = kd.ticket b n;
  began = kd.began;
  ended = kd.ended;
}

-- What others do is stable, and so is all that is left.

pub others_same : (a : ℕ) (x : AbstractActor) (s : Shared) (d : Volume) → Others a x s d s d
others_same a x s d = record { seal = λ b h. refl; block = λ b h. refl; location = λ p e. refl; state = λ p e r. refl; cached = λ p e r o. refl; commit = λ l. refl; ticket = refl; began = omega arith; ended = omega arith; fail = λ e. e; live = refl; mode = refl; alone = λ m. (refl, refl) }

pub others_then : (a : ℕ) (x : AbstractActor) (s t u : Shared) (d e f : Volume) → Others a x s d t e → Others a x t e u f → Others a x s d u f
others_then a x s t u d e f i j = record {
  seal = λ b h. j.seal b h ∙ i.seal b h;
  block = λ b h. j.block b h ∙ i.block b h;
  location = λ p g. j.location p g ∙ i.location p g;
  state = λ p g r. let one = i.state p g r in j.state p g (elim r [ inl q ↦ inl (one ∙ q) | inr q ↦ inr (one ∙ q) ]) ∙ one;
  cached = λ p g r o. j.cached p g (i.state p g (inl r) ∙ r) o ∙ i.cached p g r o;
  commit = λ l. j.commit l ∙ i.commit l;
  ticket = j.ticket ∙ i.ticket;
  began = omega (arith, i.began, j.began);
  ended = omega (arith, i.ended, j.ended);
  fail = λ g. j.fail (i.fail g);
  live = j.live ∙ i.live;
  mode = j.mode ∙ i.mode;
  alone = λ m. let p = i.alone m in let q = j.alone m in (q.0 ∙ p.0, q.1 ∙ p.1);
}

next_on : (size a : ℕ) (rest : AbstractActor → Shared → Volume → Type 0) (x : AbstractActor) (task : Option Script) (s t : Shared) (d e : Volume) → Others a x s d t e → Next size a rest x task s d → Next size a rest x task t e
next_on size a rest x None s t d e o i = tt
next_on size a rest x (Some script) s t d e o i = λ u f got p g v r. i u f got (others_then a x s t u d e f o p) g v r

pub safe_on : (n size a : ℕ) (x : AbstractActor) (s t : Shared) (d e : Volume) → Others a x s d t e → Safe n size a x s d → Safe n size a x t e
safe_on zero size a x s t d e o i = tt
safe_on (suc n) size a x s t d e o i = next_on size a (λ y u f. Safe n size a y u f) x x.task s t d e o i

-- Blocks that rest.

pub owns_or : (held : Held) (b : ℕ) → (held ≡ Owns b) ⊎ (held ≢ Owns b)
owns_or Nothing b = inr (λ e. absurd (cc))
owns_or (Shares c) b = inr (λ e. absurd (cc))
owns_or (Owns c) b = elim (cases_eq c b) [ inl e ↦ inl (ap (λ v. Owns v) e) | inr n ↦ inr (λ e. n (cc)) ]

-- who gives a block back has said that it rests
pub disowned : (x : AbstractActor) (s t : Shared) (e : Volume) (job : Job) (w : Want) (got : Got) (b : ℕ) → Ready w x s → x.held ≡ Owns b → held_after x.held w got ≢ Owns b → Owes job w t e → RestsAt t e b
disowned x s t e job (Share c) got b r h n o = absurd (cc)
disowned x s t e job (Own c) got b r h n o = absurd (cc)
disowned x s t e job (Leave c) got b r h n o = absurd (cc)
disowned x s t e job (Disown c) got b r h n o = let f : Owns c ≡ Owns b = sym r ∙ h in let is : c ≡ b = cc in subst (λ (v : ℕ). RestsAt t e v) is o
disowned x s t e job w got b r h n o = absurd (n h)

-- nothing is left of no task
next_idle : (size a : ℕ) (rest : AbstractActor → Shared → Volume → Type 0) (x : AbstractActor) (task : Option Script) (s : Shared) (d : Volume) → task ≡ None → Next size a rest x task s d
next_idle size a rest x None s d e = tt
next_idle size a rest x (Some script) s d e = absurd (cc)

pub idle_safe : (n size a : ℕ) (x : AbstractActor) (s : Shared) (d : Volume) → x.task ≡ None → Safe n size a x s d
idle_safe zero size a x s d e = tt
idle_safe (suc n) size a x s d e = next_idle size a (λ y u f. Safe n size a y u f) x x.task s d e
