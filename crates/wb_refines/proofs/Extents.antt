-- A write of an extent there is a write of its sectors in the list.
use Rattle.std.proofs.Common.{◌≡◌, ◌<◌, ◌≤◌, ◌+◌, ◌*◌, ◌∙◌, ℕ, zero, suc, Bool, true, false, if◌then◌else◌, List, [], ◌∷◌, Option, Some, None, refl, sym, ap, subst, arith, map, length, slice_get}
use Rattle.wb_types.specs.Extents.{rising}
use Rattle.wb_disk.specs.Device.{Content, History, newest, added, written}
use Rattle.wb_disk.specs.Extents.{GivesEach, written_where}
use Rattle.wb_contents.specs.Volume.{changed_at}
use Rattle.wb_contents.proofs.Devices.{read_is_newest, write_is_act}
use Rattle.wb_link.specs.World.{Shared, AreAlike, newest_at, put_sector, put_where, if_landed}
use Rattle.wb_refines.specs.Data.{side, row, IsSide, SameBeside}
use Rattle.wb_disk.proofs.Lengths.{length_grown}

newest_side : (to : Option ℕ) (s : Shared) (b o : ℕ) → newest_at s to b o ≡ newest (side to s (row to b) o)
newest_side None s b o = refl
newest_side (Some k) s b o = refl

put_side : (to : Option ℕ) (s : Shared) (b o : ℕ) (c : Content) → side to (put_sector s to b o c) ≡ changed_at (side to s) (row to b) o (added (side to s (row to b) o) c)
put_side None s b o c = refl
put_side (Some k) s b o c = refl

-- a sector that is written is written in its list
put_is : (size : ℕ) (blank : Content) (to : Option ℕ) (device : List History) (s : Shared) (b o : ℕ) (c : Content) → o < size → row to b * size + o < length device → IsSide size blank to device s →
    IsSide size blank to (written device (row to b * size + o) c) (put_sector s to b o c)
put_is size blank to device s b o c l m i = put_side to s b o c ∙ ap (λ (f : ℕ → ℕ → History). changed_at f (row to b) o (added (f (row to b) o) c)) i ∙ sym (write_is_act size blank device (row to b) o c l m)

-- what is read is what the list has
pub alike_self : (os : List ℕ) (f : ℕ → Content) → AreAlike os f f
alike_self [] f = tt
alike_self (o ∷ os) f = (refl, alike_self os f)

pub reads_newest : (size : ℕ) (blank : Content) (s : Shared) (to : Option ℕ) (b : ℕ) (device : List History) → IsSide size blank to device s → (contents : List Content) (o : ℕ) → o + length contents ≤ size → GivesEach device (row to b * size + o) contents → contents ≡ map (newest_at s to b) (rising o (length contents))
reads_newest size blank s to b device i [] o l g = refl
reads_newest size blank s to b device i (c ∷ contents) o l g =
    let same : suc (row to b * size + o) ≡ row to b * size + (o + 1) = omega arith in
    let here : c ≡ newest_at s to b o = sym (newest_side to s b o ∙ ap (λ (f : ℕ → ℕ → History). newest (f (row to b) o)) i ∙ read_is_newest size blank device (row to b) o c (omega (arith, l)) g.0) in
    (λ j. here j ∷ reads_newest size blank s to b device i contents (o + 1) (omega (arith, l)) (subst (λ v. GivesEach device v contents) same g.1) j)

-- ---- writes

pub same_beside : (to : Option ℕ) (s : Shared) → SameBeside to s s
same_beside to s = record { other = refl; seals = refl; fail = refl; images = record { mapping = refl; blocks = refl; live = refl; mode = refl; committing = refl; began = refl; ended = refl; broken = refl; committed = refl; running = refl; root_written = refl; committed_clean = refl; running_clean = refl } }

put_beside : (to : Option ℕ) (s t : Shared) (b o : ℕ) (c : Content) → SameBeside to s t → SameBeside to s (put_sector t to b o c)
put_beside None s t b o c k = record { other = k.other; seals = k.seals; fail = k.fail; images = record { mapping = k.images.mapping; blocks = k.images.blocks; live = k.images.live; mode = k.images.mode; committing = k.images.committing; began = k.images.began; ended = k.images.ended; broken = k.images.broken; committed = k.images.committed; running = k.images.running; root_written = k.images.root_written; committed_clean = k.images.committed_clean; running_clean = k.images.running_clean } }
put_beside (Some j) s t b o c k = record { other = k.other; seals = k.seals; fail = k.fail; images = record { mapping = k.images.mapping; blocks = k.images.blocks; live = k.images.live; mode = k.images.mode; committing = k.images.committing; began = k.images.began; ended = k.images.ended; broken = k.images.broken; committed = k.images.committed; running = k.images.running; root_written = k.images.root_written; committed_clean = k.images.committed_clean; running_clean = k.images.running_clean } }

-- each sector of an extent, which has landed or not
module _ (size : ℕ) (blank : Content) (to : Option ℕ) (b : ℕ) (contents : ℕ → Content) (lands : ℕ → Bool) where
  put_if : (t : Bool) (device : List History) (s : Shared) (o : ℕ) → o < size → row to b * size + o < length device → IsSide size blank to device s → let device' = if t then written device (row to b * size + o) (contents o) else device in
      IsSide size blank to device' (if_landed t (put_sector s to b o (contents o)) s) × (length device' ≡ length device)
  put_if true device s o l m i = (put_is size blank to device s b o (contents o) l m i, length_grown (slice_get device (row to b * size + o)) device (row to b * size + o) (contents o))
  put_if false device s o l m i = (i, refl)

  pub put_where_is : (count : ℕ) (s : Shared) (device : List History) (o : ℕ) → IsSide size blank to device s → o + count ≤ size → row to b * size + o + count ≤ length device →
      IsSide size blank to (written_where lands device (row to b * size + o) (map contents (rising o count))) (put_where (λ q. lands (row to b * size + q)) s to b (rising o count) contents)
  put_where_is zero s device o i l m = i
  put_where_is (suc count) s device o i l m =
      let same : row to b * size + (o + 1) ≡ suc (row to b * size + o) = omega arith in
      let landed = lands (row to b * size + o) in
      let s' = if_landed landed (put_sector s to b o (contents o)) s in
      let device' = if landed then written device (row to b * size + o) (contents o) else device in
      let went = put_if landed device s o (omega (arith, l)) (omega (arith, m)) i in
      let wide = went.1 in
      subst (λ (v : ℕ). IsSide size blank to (written_where lands device' v (map contents (rising (o + 1) count))) (put_where (λ q. lands (row to b * size + q)) s' to b (rising (o + 1) count) contents)) same
      (put_where_is count s' device' (o + 1) went.0 (omega (arith, l)) (omega (arith, m, wide)))

  beside_if : (t : Bool) (s u : Shared) (o : ℕ) → SameBeside to s u → SameBeside to s (if_landed t (put_sector u to b o (contents o)) u)
  beside_if true s u o k = put_beside to s u b o (contents o) k
  beside_if false s u o k = k

  pub where_beside : (os : List ℕ) (s t : Shared) → SameBeside to s t → SameBeside to s (put_where (λ q. lands (row to b * size + q)) t to b os contents)
  where_beside [] s t k = k
  where_beside (o ∷ os) s t k = where_beside os s _ (beside_if (lands (row to b * size + o)) s t o k)
