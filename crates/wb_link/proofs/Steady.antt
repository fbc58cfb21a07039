-- What no act of an actor changes: that a target stands, its mode, and what lies past the sectors of a block.
use Rattle.std.proofs.Common.{◌≡◌, ◌≤◌, ◌<◌, inr, ℕ, Bool, true, false, cond, Option, Some, None, List, [], ◌∷◌, refl, ap, ◌∙◌, arith}
use Rattle.wb_disk.specs.Device.{Content, History, newest, only}
use Rattle.wb_contents.specs.Volume.{Volume, changed_at}
use Rattle.wb_contents.specs.Acts.{Act, Write, Write_origin, Write_cache, Fail_write, Finish, Fill_cache, Copy_back, Map, Unmap, Make_dirty, Make_clean, Begin_commit, Begin_suspend, Sync_cache, Sync_origin, Fail_cache_sync, Fail_origin_sync, Write_root, End_commit, Begin_flush, End_flush, volume_after as after_act, sector_written, written_through, volume_after_all as after_acts}
use Rattle.wb_contents.specs.Conditions.{IsRunOfActs as IsActs}
use Rattle.wb_contents.proofs.Sectors.{elsewhere_is}
use Rattle.wb_contents.proofs.Run.{KeepsAll, act_kept}
use Rattle.wb_link.specs.World.{AbstractActor}
use Rattle.wb_link.proofs.Acts.{Mine, Keeps, act_keeps, keeps_same, keeps_then}
use Rattle.wb_link.proofs.Link.{Bounded, AllMine}

pub record Steady (size : ℕ) (d e : Volume) : Type 0 where
  pub bounded : Bounded size d → Bounded size e

pub quiet : (size : ℕ) (d e : Volume) → e.origin ≡ d.origin → e.cache ≡ d.cache → Steady size d e
quiet size d e o c = record { bounded = λ i. (i.0, λ b q p. let h = i.1 b q p in (ap (λ f. f b q) o ∙ h.0, ap (λ f. f b q) c ∙ h.1)) }

past : (f : ℕ → ℕ → History) (size i o b q : ℕ) (h : History) (z : Content) → o < size → size ≤ q → f b q ≡ only z → changed_at f i o h b q ≡ only z
past f size i o b q h z l p e = elsewhere_is f i o b q h (inr (λ s. absurd (omega arith))) ∙ e

at_origin : (size : ℕ) (d e : Volume) (b o : ℕ) (h : History) → o < size → e.origin ≡ changed_at d.origin b o h → e.cache ≡ d.cache → Steady size d e
at_origin size d e b o h l s c = record { bounded = λ i. (i.0, λ c' q p. let j = i.1 c' q p in (ap (λ g. g c' q) s ∙ past d.origin size b o c' q h i.0 l p j.0, ap (λ g. g c' q) c ∙ j.1)) }

at_cache : (size : ℕ) (d e : Volume) (b o : ℕ) (h : History) → o < size → e.origin ≡ d.origin → e.cache ≡ changed_at d.cache b o h → Steady size d e
at_cache size d e b o h l s c = record { bounded = λ i. (i.0, λ c' q p. let j = i.1 c' q p in (ap (λ g. g c' q) s ∙ j.0, ap (λ g. g c' q) c ∙ past d.cache size b o c' q h i.0 l p j.1)) }

at_write : (size : ℕ) (d : Volume) (b o : ℕ) (c : Content) (p : Option ℕ) → o < size → Steady size d (sector_written d p b o c)
at_write size d b o c None l = at_origin size d (sector_written d None b o c) b o _ l refl refl
at_write size d b o c (Some k) l = at_cache size d (sector_written d (Some k) b o c) k o _ l refl refl

at_through : (size : ℕ) (d : Volume) (b o : ℕ) (p : Option ℕ) → o < size → Steady size d (written_through d p b o)
at_through size d b o None l = quiet size d d refl refl
at_through size d b o (Some k) l = at_cache size d (written_through d (Some k) b o) k o _ l refl refl

pub part : (t : Bool) (h : History) (z : Content) → h ≡ only z → cond t (only (newest h)) h ≡ only z
part true h z e = ap (λ g. only (newest g)) e
part false h z e = e

act_steady : (size a : ℕ) (x : AbstractActor) (busy : Bool) (d : Volume) (y : Act) → Mine size a x busy y → Steady size d (after_act d y)
act_steady size a x busy d (Write b o c) m = at_write size d b o c (d.mapping b) m.1
act_steady size a x busy d (Write_origin b o c) m = at_origin size d (after_act d (Write_origin b o c)) b o _ m.1 refl refl
act_steady size a x busy d (Write_cache b o) m = at_through size d b o (d.mapping b) m.1
act_steady size a x busy d (Fail_write b o c) m = quiet size d (after_act d (Fail_write b o c)) refl refl
act_steady size a x busy d (Finish b o) m = quiet size d (after_act d (Finish b o)) refl refl
act_steady size a x busy d (Fill_cache k o c) m = at_cache size d (after_act d (Fill_cache k o c)) k o _ m.1 refl refl
act_steady size a x busy d (Copy_back b o) m = at_origin size d (after_act d (Copy_back b o)) b o _ m.1 refl refl
act_steady size a x busy d (Map b k) m = quiet size d (after_act d (Map b k)) refl refl
act_steady size a x busy d (Unmap b) m = quiet size d (after_act d (Unmap b)) refl refl
act_steady size a x busy d (Make_dirty b) m = quiet size d (after_act d (Make_dirty b)) refl refl
act_steady size a x busy d (Make_clean b) m = quiet size d (after_act d (Make_clean b)) refl refl
act_steady size a x busy d Begin_commit m = quiet size d (after_act d Begin_commit) refl refl
act_steady size a x busy d Begin_suspend m = quiet size d (after_act d Begin_suspend) refl refl
act_steady size a x busy d Sync_cache m = record { bounded = λ i. (i.0, λ b q p. let j = i.1 b q p in (j.0, part true (d.cache b q) i.0 j.1)) }
act_steady size a x busy d Sync_origin m = record { bounded = λ i. (i.0, λ b q p. let j = i.1 b q p in (part true (d.origin b q) i.0 j.0, j.1)) }
act_steady size a x busy d (Fail_cache_sync choice) m = record { bounded = λ i. (i.0, λ b q p. let j = i.1 b q p in (j.0, part (choice b q) (d.cache b q) i.0 j.1)) }
act_steady size a x busy d (Fail_origin_sync choice) m = record { bounded = λ i. (i.0, λ b q p. let j = i.1 b q p in (part (choice b q) (d.origin b q) i.0 j.0, j.1)) }
act_steady size a x busy d Write_root m = quiet size d (after_act d Write_root) refl refl
act_steady size a x busy d End_commit m = quiet size d (after_act d End_commit) refl refl
act_steady size a x busy d (Begin_flush actor) m = quiet size d (after_act d (Begin_flush actor)) refl refl
act_steady size a x busy d (End_flush actor) m = quiet size d (after_act d (End_flush actor)) refl refl
act_steady size a x busy d act m = absurd m

-- After all acts of a step: what is kept, what others keep, what is steady.
pub record Acted (size a : ℕ) (x : AbstractActor) (busy : Bool) (d e : Volume) : Type 0 where
  pub kept : KeepsAll e
  pub keeps : Keeps a x busy d e
  pub bounded : Bounded size e

pub acted : (size a : ℕ) (x : AbstractActor) (busy : Bool) (d : Volume) (ys : List Act) → KeepsAll d → Bounded size d → IsActs d ys → AllMine size a x busy ys → Acted size a x busy d (after_acts d ys)
acted size a x busy d [] i z r m = record { kept = i; keeps = keeps_same a x busy d; bounded = z }
acted size a x busy d (y ∷ ys) i z r m =
    let one = act_steady size a x busy d y m.0 in
    let all = acted size a x busy (after_act d y) ys (act_kept d y r.0 i) (one.bounded z) r.1 m.1 in record {
      kept = all.kept;
      keeps = keeps_then a x busy d (after_act d y) (after_acts d (y ∷ ys)) (act_keeps size a x busy d y i i.flushes.numbers r.0 m.0) all.keeps;
      bounded = all.bounded;
    }
