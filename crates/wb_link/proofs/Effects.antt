-- What a step does to what is shared, whatever task takes it: what it leaves to others, and the desk's rules after it.
use Rattle.std.proofs.Common.{◌≡◌, ◌≢◌, inl, inr, ℕ, Bool, true, false, List, [], ◌∷◌, Option, Some, None, refl, sym, ap, subst, ◌∙◌}
use Rattle.std.proofs.lemmas.Bool.{cases_eq}
use Rattle.wb_disk.specs.Device.{Content, History}
use Rattle.wb_contents.specs.Volume.{Locations, Volume, changed}
use Rattle.wb_contents.specs.Conditions.{IsUnnamed}
use Rattle.wb_contents.proofs.Positions.{changed_same, changed_other}
use Rattle.wb_contents.proofs.Floors.{HasHomes}
use Rattle.wb_link.specs.Tables.{Order, Job, Want, Set_seal, Set_failed, Set_suspended, Break_commits, Write_all, Begin, Begin_clean, Sync_cache_device, Sync_origin_device, Put_root, End_running, Map_to, Unmap_from, Unmap_plain, Give_up, Got, Done, Fault}
use Rattle.wb_link.specs.World.{Block, Free, Mapped, Reserved, Quarantined, Retained, removed, Shared, Owns, AbstractActor, effect, put_sector, put_where, if_landed, abstract_contents_for, block_begun, block_ended, block_given_back, drops}
use Rattle.wb_link.proofs.Acts.{NotCache}
use Rattle.wb_link.proofs.Link.{Ordered, Turns, Good, Sound, AllSound, Ready}

pub record KeepsShared (x : AbstractActor) (s t : Shared) : Type 0 where
  pub seal : (b : ℕ) → x.held ≢ Owns b → t.seals b ≡ s.seals b
  pub state : drops x.task ≡ false → (k : ℕ) → NotCache x k → Ordered (s.blocks k) → Turns (s.blocks k) (t.blocks k)

same : (x : AbstractActor) (s t : Shared) → t.seals ≡ s.seals → t.blocks ≡ s.blocks → KeepsShared x s t
same x s t e f = record { seal = λ b n. ap (λ g. g b) e; state = λ h k n r. inl (ap (λ g. g k) f) }

-- the desk's part, and seals, of a write
pub record SameDesk (s t : Shared) : Type 0 where
  pub seals : t.seals ≡ s.seals
  pub mapping : t.mapping ≡ s.mapping
  pub blocks : t.blocks ≡ s.blocks
  pub committing : t.committing ≡ s.committing
  pub committed : t.committed ≡ s.committed
  pub running : t.running ≡ s.running
  pub root_written : t.root_written ≡ s.root_written
  pub fail : t.fail ≡ s.fail

devices_desk : (s : Shared) (origin cache : ℕ → ℕ → History) → SameDesk s (record s { origin = origin; cache = cache })
devices_desk s origin cache = record { seals = refl; mapping = refl; blocks = refl; committing = refl; committed = refl; running = refl; root_written = refl; fail = refl }

desk_same : (s : Shared) → SameDesk s s
desk_same s = devices_desk s s.origin s.cache

pub put_sector_desk : (s : Shared) (location : Option ℕ) (b o : ℕ) (c : Content) → SameDesk s (put_sector s location b o c)
put_sector_desk s None b o c = devices_desk s _ _
put_sector_desk s (Some k) b o c = devices_desk s _ _

landed_desk : (t : Bool) (s : Shared) (location : Option ℕ) (b o : ℕ) (c : Content) → SameDesk s (if_landed t (put_sector s location b o c) s)
landed_desk true s location b o c = put_sector_desk s location b o c
landed_desk false s location b o c = desk_same s

desk_then : (s t u : Shared) → SameDesk s t → SameDesk t u → SameDesk s u
desk_then s t u i j = record { seals = j.seals ∙ i.seals; mapping = j.mapping ∙ i.mapping; blocks = j.blocks ∙ i.blocks; committing = j.committing ∙ i.committing; committed = j.committed ∙ i.committed; running = j.running ∙ i.running; root_written = j.root_written ∙ i.root_written; fail = j.fail ∙ i.fail }

where_desk : (lands : ℕ → Bool) (s : Shared) (location : Option ℕ) (b : ℕ) (os : List ℕ) (contents : ℕ → Content) → SameDesk s (put_where lands s location b os contents)
where_desk lands s location b [] contents = desk_same s
where_desk lands s location b (o ∷ os) contents = desk_then s _ _ (landed_desk (lands o) s location b o (contents o)) (where_desk lands (if_landed (lands o) (put_sector s location b o (contents o)) s) location b os contents)

pub write_desk : (s : Shared) (job : Job) (buffer : ℕ → Content) (location : Option ℕ) (b : ℕ) (os : List ℕ) (got : Got) → SameDesk s (effect s job buffer (Write_all location b os) got)
write_desk s job buffer location b os Done = where_desk (λ o. true) s location b os (abstract_contents_for job buffer)
write_desk s job buffer location b os (Fault lands) = where_desk (lands b) s location b os (abstract_contents_for job buffer)
write_desk s job buffer location b os got = desk_same s

pub sync_cached_desk : (s : Shared) (job : Job) (buffer : ℕ → Content) (got : Got) → SameDesk s (effect s job buffer Sync_cache_device got)
sync_cached_desk s job buffer Done = devices_desk s _ _
sync_cached_desk s job buffer (Fault lands) = devices_desk s _ _
sync_cached_desk s job buffer got = desk_same s

pub sync_based_desk : (s : Shared) (job : Job) (buffer : ℕ → Content) (got : Got) → SameDesk s (effect s job buffer Sync_origin_device got)
sync_based_desk s job buffer Done = devices_desk s _ _
sync_based_desk s job buffer (Fault lands) = devices_desk s _ _
sync_based_desk s job buffer got = desk_same s

by_desk : (x : AbstractActor) (s t : Shared) → SameDesk s t → KeepsShared x s t
by_desk x s t i = same x s t i.seals i.blocks

-- A commit's beginning and its end leave a reserved and a mapped block as it is, and make a kept one a reserved one.
pub begun_turns : (b : Block) → Ordered b → Turns b (block_begun b)
begun_turns (Retained early) i = inr ((early, refl), inl (true, refl))
begun_turns (Quarantined early) i = absurd (none early i)
  where
    none : (early : Bool) → Ordered (Quarantined early) → ⊥
    none early (inl (inl e)) = absurd (cc)
    none early (inl (inr e)) = absurd (cc)
    none early (inr k) = let bad : Quarantined early ≡ Retained k.0 = k.1 in absurd (cc)
begun_turns b i = inl refl

pub ended_turns : (b : Block) → Ordered b → Turns b (block_ended b)
ended_turns (Retained true) i = inr ((true, refl), inr refl)
ended_turns (Quarantined true) i = absurd (none i)
  where
    none : Ordered (Quarantined true) → ⊥
    none (inl (inl e)) = absurd (cc)
    none (inl (inr e)) = absurd (cc)
    none (inr k) = let bad : Quarantined true ≡ Retained k.0 = k.1 in absurd (cc)
ended_turns b i = inl refl

-- a block of the actor's order
order_keeps : (x : AbstractActor) (s : Shared) (p : Order) (m : Locations) (b : Block) → x.order ≡ Some p → KeepsShared x s (record s { mapping = m; blocks = changed s.blocks p.cache b })
order_keeps x s p m b e = record { seal = λ c n. refl; state = λ h k n r. inl (changed_other s.blocks p.cache k b (λ y. n p e (sym y))) }

pub effect_keeps : (x : AbstractActor) (s : Shared) (job : Job) (buffer : ℕ → Content) (w : Want) (got : Got) → Ready w x s → KeepsShared x s (effect s job buffer w got)
effect_keeps x s job buffer (Set_seal b seal) got r = record { seal = λ c n. changed_other s.seals b c seal (λ e. n (r ∙ ap (λ v. Owns v) (sym e))); state = λ h k n i. inl refl }
effect_keeps x s job buffer Set_failed got r = same x s (effect s job buffer Set_failed got) refl refl
effect_keeps x s job buffer (Write_all location b os) got r = by_desk x s _ (write_desk s job buffer location b os got)
effect_keeps x s job buffer (Begin ticket) Done r = record { seal = λ b n. refl; state = λ h k n r. begun_turns (s.blocks k) r }
effect_keeps x s job buffer Break_commits got r = same x s (effect s job buffer Break_commits got) refl refl
effect_keeps x s job buffer Set_suspended got r = same x s (effect s job buffer Set_suspended got) refl refl
effect_keeps x s job buffer Begin_clean Done r = record { seal = λ b n. refl; state = λ h k n r. begun_turns (s.blocks k) r }
effect_keeps x s job buffer Sync_cache_device got r = by_desk x s _ (sync_cached_desk s job buffer got)
effect_keeps x s job buffer Sync_origin_device got r = by_desk x s _ (sync_based_desk s job buffer got)
effect_keeps x s job buffer Put_root got r = same x s (effect s job buffer Put_root got) refl refl
effect_keeps x s job buffer End_running got r = record { seal = λ b n. refl; state = λ h k n i. ended_turns (s.blocks k) i }
effect_keeps x s job buffer (Map_to p) got r = order_keeps x s p (changed s.mapping p.block (Some p.cache)) Mapped r.0
effect_keeps x s job buffer (Unmap_from p) got r = order_keeps x s p (changed s.mapping p.block None) (removed p.next) r.0
effect_keeps x s job buffer (Unmap_plain b k) got r = record { seal = λ c n. refl; state = λ h j n i. let free = r.0 in absurd (cc) }
effect_keeps x s job buffer (Give_up p) got r = order_keeps x s p s.mapping (block_given_back (s.blocks p.cache)) r
effect_keeps x s job buffer w got r = by_desk x s s (desk_same s)

-- Image safety after each step.

sound_desk : (s t : Shared) → SameDesk s t → AllSound s → AllSound t
sound_desk s t i all k = rw (i.blocks, i.mapping, i.committed, i.running) (all k)

sound_begun : (b : Block) (m c r : Locations) (k : ℕ) → Sound b m c r k → Sound (block_begun b) m c m k
sound_begun Free m c r k i = (i.0, i.1, i.0)
sound_begun Mapped m c r k i = tt
sound_begun Reserved m c r k i = (i.0, i.1, i.0)
sound_begun (Quarantined true) m c r k i = (i.0, i.0)
sound_begun (Quarantined false) m c r k i = (i, i)
sound_begun (Retained true) m c r k i = (i.0, i.0)
sound_begun (Retained false) m c r k i = (i, i)

sound_ended : (b : Block) (m c r : Locations) (k : ℕ) → Sound b m c r k → Sound (block_ended b) m r r k
sound_ended Free m c r k i = (i.0, i.2, i.2)
sound_ended Mapped m c r k i = tt
sound_ended Reserved m c r k i = (i.0, i.2, i.2)
sound_ended (Quarantined true) m c r k i = (i.0, i.1, i.1)
sound_ended (Quarantined false) m c r k i = i
sound_ended (Retained true) m c r k i = (i.0, i.1, i.1)
sound_ended (Retained false) m c r k i = i

pub sound_given : (b : Block) (m c r : Locations) (k : ℕ) → Sound b m c r k → Sound (block_given_back b) m c r k
sound_given Free m c r k i = i
sound_given b m c r k i = i

-- the mapping changes, and this block is not named by the new one where it was not by the old one
sound_moved : (b : Block) (m n c r : Locations) (k : ℕ) → (IsUnnamed m k → IsUnnamed n k) → Sound b m c r k → Sound b n c r k
sound_moved Free m n c r k u i = (u i.0, i.1, i.2)
sound_moved Mapped m n c r k u i = tt
sound_moved Reserved m n c r k u i = (u i.0, i.1, i.2)
sound_moved (Quarantined true) m n c r k u i = (u i.0, i.1)
sound_moved (Quarantined false) m n c r k u i = u i
sound_moved (Retained true) m n c r k u i = (u i.0, i.1)
sound_moved (Retained false) m n c r k u i = u i

sound_removed : (next : Option ℕ) (m c r : Locations) (k : ℕ) → IsUnnamed m k → Sound (removed next) m c r k
sound_removed None m c r k u = u
sound_removed (Some b) m c r k u = u

-- a block changes its state, and the mapping perhaps
pub sound_put : (s : Shared) (k : ℕ) (b : Block) (m : Locations) → Sound b m s.committed s.running k → ((j : ℕ) → j ≢ k → IsUnnamed s.mapping j → IsUnnamed m j) → AllSound s → AllSound (record s { mapping = m; blocks = changed s.blocks k b })
sound_put s k b m here u all j = elim (cases_eq j k) [
  | inl e ↦ subst (λ (v : ℕ). Sound (changed s.blocks k b v) m s.committed s.running v) (sym e) (rw (changed_same s.blocks k b) here)
  | inr n ↦ rw (changed_other s.blocks k j b n) (sound_moved (s.blocks j) s.mapping m s.committed s.running j (u j n) (all j))
]

unnamed_put : (m : Locations) (b j : ℕ) (to : Option ℕ) → to ≢ Some j → IsUnnamed m j → IsUnnamed (changed m b to) j
unnamed_put m b j to n u c e = elim (cases_eq c b) [
  | inl s ↦ n (sym (changed_same m b to) ∙ ap (changed m b to) (sym s) ∙ e)
  | inr d ↦ u c (sym (changed_other m b c to d) ∙ e)
]

-- once its block is unmapped, no other has its location
unnamed_now : (m : Locations) (home : ℕ → Option ℕ) (b k : ℕ) → HasHomes home m → m b ≡ Some k → IsUnnamed (changed m b None) k
unnamed_now m home b k homes e c y = elim (cases_eq c b) [
  | inl s ↦ let none : None ≡ Some k = sym (changed_same m b None) ∙ ap (changed m b None) (sym s) ∙ y in absurd (cc)
  | inr n ↦ let there : m c ≡ Some k = sym (changed_other m b c None n) ∙ y in
      let one : Some c ≡ Some b = sym (homes c k there) ∙ homes b k e in let is : c ≡ b = cc in absurd (n is)
]

pub effect_sound : (size : ℕ) (x : AbstractActor) (s : Shared) (d : Volume) (job : Job) (buffer : ℕ → Content) (w : Want) (got : Got) → Good size s d → Ready w x s → AllSound (effect s job buffer w got)
effect_sound size x s d job buffer (Write_all location b os) got i r = sound_desk s _ (write_desk s job buffer location b os got) i.sound
effect_sound size x s d job buffer (Begin ticket) Done i r = λ k. sound_begun (s.blocks k) s.mapping s.committed s.running k (i.sound k)
effect_sound size x s d job buffer Begin_clean Done i r = λ k. sound_begun (s.blocks k) s.mapping s.committed s.running k (i.sound k)
effect_sound size x s d job buffer Sync_cache_device got i r = sound_desk s _ (sync_cached_desk s job buffer got) i.sound
effect_sound size x s d job buffer Sync_origin_device got i r = sound_desk s _ (sync_based_desk s job buffer got) i.sound
effect_sound size x s d job buffer End_running got i r = λ k. sound_ended (s.blocks k) s.mapping s.committed s.running k (i.sound k)
effect_sound size x s d job buffer (Map_to p) got i r = sound_put s p.cache Mapped (changed s.mapping p.block (Some p.cache)) tt
    (λ j n u. unnamed_put s.mapping p.block j (Some p.cache) (λ e. n (cc)) u) i.sound
effect_sound size x s d job buffer (Unmap_from p) got i r = sound_put s p.cache (removed p.next) (changed s.mapping p.block None)
    (sound_removed p.next (changed s.mapping p.block None) s.committed s.running p.cache (unnamed_now s.mapping i.kept.floors.home p.block p.cache (λ b k e. i.kept.floors.home_of_mapping b k (sym (ap (λ f. f b) i.agrees.mapping) ∙ e)) r.1))
    (λ j n u. unnamed_put s.mapping p.block j None (λ e. absurd (cc)) u) i.sound
effect_sound size x s d job buffer (Unmap_plain b k) got i r = sound_put s k (Quarantined false) (changed s.mapping b None)
    (unnamed_now s.mapping i.kept.floors.home b k (λ c j e. i.kept.floors.home_of_mapping c j (sym (ap (λ f. f c) i.agrees.mapping) ∙ e)) r.1)
    (λ j n u. unnamed_put s.mapping b j None (λ e. absurd (cc)) u) i.sound
effect_sound size x s d job buffer (Give_up p) got i r = sound_put s p.cache (block_given_back (s.blocks p.cache)) s.mapping (sound_given (s.blocks p.cache) s.mapping s.committed s.running p.cache (i.sound p.cache)) (λ j n u. u) i.sound
effect_sound size x s d job buffer w got i r = i.sound

-- Where no commit runs, no root of one was written.

idle_desk : (s t : Shared) → SameDesk s t → (s.committing ≡ false → s.root_written ≡ false) → t.committing ≡ false → t.root_written ≡ false
idle_desk s t i f e = i.root_written ∙ f (sym i.committing ∙ e)

pub effect_idle : (x : AbstractActor) (s : Shared) (job : Job) (buffer : ℕ → Content) (w : Want) (got : Got) → (x.leads ≡ true → s.committing ≡ true) → Ready w x s → (s.committing ≡ false → s.root_written ≡ false) →
    (effect s job buffer w got).committing ≡ false → (effect s job buffer w got).root_written ≡ false
effect_idle x s job buffer (Write_all location b os) got l r f = idle_desk s _ (write_desk s job buffer location b os got) f
effect_idle x s job buffer (Begin ticket) Done l r f = λ e. absurd (cc)
effect_idle x s job buffer Begin_clean Done l r f = λ e. absurd (cc)
effect_idle x s job buffer Sync_cache_device got l r f = idle_desk s _ (sync_cached_desk s job buffer got) f
effect_idle x s job buffer Sync_origin_device got l r f = idle_desk s _ (sync_based_desk s job buffer got) f
effect_idle x s job buffer Put_root got l r f = λ e. let busy = l r in absurd (cc)
effect_idle x s job buffer End_running got l r f = λ e. refl
effect_idle x s job buffer w got l r f = f

-- A fail word that is set stays so.

fail_desk : (s t : Shared) → SameDesk s t → s.fail ≡ true → t.fail ≡ true
fail_desk s t i e = i.fail ∙ e

begin_fail : (s : Shared) (job : Job) (buffer : ℕ → Content) (ticket : Option ℕ) (got : Got) → s.fail ≡ true → (effect s job buffer (Begin ticket) got).fail ≡ true
begin_fail s job buffer ticket Done e = e
begin_fail s job buffer ticket got e = e

suspend_fail : (s : Shared) (job : Job) (buffer : ℕ → Content) (got : Got) → s.fail ≡ true → (effect s job buffer Begin_clean got).fail ≡ true
suspend_fail s job buffer Done e = e
suspend_fail s job buffer got e = e

pub effect_fail : (s : Shared) (job : Job) (buffer : ℕ → Content) (w : Want) (got : Got) → s.fail ≡ true → (effect s job buffer w got).fail ≡ true
effect_fail s job buffer Set_failed got e = refl
effect_fail s job buffer Set_suspended got e = refl
effect_fail s job buffer (Write_all location b os) got e = fail_desk s _ (write_desk s job buffer location b os got) e
effect_fail s job buffer (Begin ticket) got e = begin_fail s job buffer ticket got e
effect_fail s job buffer Begin_clean got e = suspend_fail s job buffer got e
effect_fail s job buffer Sync_cache_device got e = fail_desk s _ (sync_cached_desk s job buffer got) e
effect_fail s job buffer Sync_origin_device got e = fail_desk s _ (sync_based_desk s job buffer got) e
effect_fail s job buffer w got e = e
