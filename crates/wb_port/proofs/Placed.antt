-- Whatever a job on a block has still to move is of its block, where the seal tells that its pass has seen, or where it is copied to.
use Rattle.std.proofs.Common.{◌≡◌, ◌∙◌, ◌≤◌, ◌<◌, ◌+◌, ◌-◌, ◌*◌, ◌/◌, ◌%◌, ◌⊎◌, inl, inr, ◌≢◌, ℕ, zero, suc, Bool, true, false, List, [], ◌∷◌, Option, Some, None, refl, sym, ap, subst, arith, mod-lt, Contains}
use Rattle.std.specs.Prelude.{All}
use Rattle.std.proofs.lemmas.Nat.{mod-mul-add, div-add-mod'}
use Rattle.std.proofs.lemmas.Bool.{cases_lt}
use Rattle.std.proofs.lemmas.List.Elements.{All-nil, All-cons}
use Rattle.wb_types.specs.declared.mode.Mode.{Mode}
use Rattle.wb_types.specs.declared.mode.Mode.TheVariants.{Writeback, Writethrough, Passthrough}
use Rattle.wb_types.specs.declared.mode.Dev.{Dev}
use Rattle.wb_types.specs.declared.mode.Dev.TheVariants.{Cache, Origin}
use Rattle.wb_types.specs.declared.extent.Extent.{Extent}
use Rattle.wb_types.specs.Extents.{cut_by, pieces}
use Rattle.wb_types.specs.declared.number.OBlock.{OBlock}
use Rattle.wb_types.specs.declared.number.CBlock.{CBlock}
use Rattle.wb_words.specs.declared.word.Access.TheVariants.{Shared, Owned}
use Rattle.wb_words.specs.declared.card.Card.{Card}
use Rattle.wb_words.specs.declared.step.CellStep.TheVariants.{Release, Finish}
use Rattle.wb_words.specs.SharedWords.{place_in, dirty_in, seal_word}
use Rattle.wb_tasks.specs.Tables.{BlockRange, BlockJob, Reading, Writing, Displacing, Migrating, whole_block, cache_extent, place_read, places_written, read_step, read_count, write_count}
use Rattle.wb_tasks.specs.declared.step.DeviceStep.TheVariants.{Read, Write}
use Rattle.wb_tasks.specs.declared.step.Migration.{Migration}
use Rattle.wb_tasks.specs.declared.step.Migration.TheVariants.{Promote, Demote, Clean}
use Rattle.wb_tasks.specs.declared.step.Want.{Want}
use Rattle.wb_tasks.specs.declared.step.Want.TheVariants.{Cell, Device}
use Rattle.wb_tasks.proofs.Placed.{Followed, IsFollowed, IsThere}
use Rattle.wb_tasks.proofs.Seals.{dirty_told}
use Rattle.wb_tasks.proofs.Working.{Works}
use Rattle.wb_port.specs.declared.moving.TheConstants.{LONGEST}
use Rattle.wb_port.specs.Requests.{part_of}
use Rattle.wb_port.specs.Moves.{LiesIn, LiesAt, LiesAmong, IsCopyAt, IfCache, IfDirtied, IfOrigin, copied_to, MayMove}

-- ---- extents

abbrev pub AreIn : ℕ → ℕ → List Extent → Type 0
AreIn start size es = All (λ (e : Extent). LiesIn start size e) es

cut_in : (start size most piece first count : ℕ) → start ≤ first → (0 < count → first + count ≤ start + size) → AreIn start size (cut_by most piece first count)
cut_in start size zero piece first count l m = All-nil (λ (e : Extent). LiesIn start size e)
cut_in start size (suc most) piece first zero l m = All-nil (λ (e : Extent). LiesIn start size e)
cut_in start size (suc most) piece first (suc n) l m = let all : first + suc n ≤ start + size = m (omega arith) in
    All-cons (λ (e : Extent). LiesIn start size e) _ _ (l, omega (arith, all)) (cut_in start size most piece (first + piece) (suc n - piece) (omega (arith, l)) (λ some. omega (arith, all, some)))

-- the sectors of a part that is of its block
pub part_in : (mode : Mode) (size : ℕ) (block : OBlock) (sectors : Extent) → sectors.first / size ≡ block.0 → sectors.first % size + sectors.count ≤ size → AreIn (block.0 * size) size (part_of mode size block sectors).extents
part_in mode size block sectors of inside =
    let whole : block.0 * size + sectors.first % size ≡ sectors.first = subst (λ (b : ℕ). b * size + sectors.first % size ≡ sectors.first) of (div-add-mod' sectors.first size) in
    cut_in (block.0 * size) size sectors.count LONGEST sectors.first sectors.count (below (block.0 * size) (sectors.first % size) sectors.first whole) (λ some. within (block.0 * size) (sectors.first % size) sectors.first sectors.count size whole inside)
  where
    below : (a r n : ℕ) → a + r ≡ n → a ≤ n
    below a r n e = omega (arith, e)

    within : (a r n count size : ℕ) → a + r ≡ n → r + count ≤ size → n + count ≤ a + size
    within a r n count size e i = omega (arith, e, i)

-- those of the whole block
pub whole_in : (size : ℕ) (block : OBlock) → AreIn (block.0 * size) size (pieces LONGEST (whole_block size block))
whole_in size block = cut_in (block.0 * size) size size LONGEST (block.0 * size) size (same (block.0 * size)) (λ some. same (block.0 * size + size))
  where
    same : (n : ℕ) → n ≤ n
    same n = omega arith

-- where it stands in the cache it is in its cache block
cache_in : (size block c first count : ℕ) → 0 < size → LiesIn (block * size) size (record { first = first; count = count }) → LiesIn (c * size) size (record { first = c * size + first % size; count = count })
cache_in size block c first count some l = (begins (c * size) (first % size), ends (c * size) (first % size) count size (fits (cases_lt first (block * size + size))))
  where
    begins : (a r : ℕ) → a ≤ a + r
    begins a r = omega arith

    ends : (a r count size : ℕ) → r + count ≤ size → (a + r) + count ≤ a + size
    ends a r count size f = omega (arith, f)

    split : (a n : ℕ) → a ≤ n → n ≡ a + (n - a)
    split a n l = omega (arith, l)

    less : (a n size : ℕ) → a ≤ n → n < a + size → n - a < size
    less a n size l m = omega (arith, l, m)

    rest : (a n count size r : ℕ) → a ≤ n → n + count ≤ a + size → r ≡ n - a → r + count ≤ size
    rest a n count size r l m e = omega (arith, l, m, e)

    none : (a n count size r : ℕ) → a + size ≤ n → n + count ≤ a + size → r < size → r + count ≤ size
    none a n count size r l m e = omega (arith, l, m, e)

    fits : (first < block * size + size) ⊎ (block * size + size ≤ first) → first % size + count ≤ size
    fits (inl h) =
        let r : first % size ≡ first - block * size = ap (λ (n : ℕ). n % size) (split (block * size) first l.0) ∙ mod-mul-add block size (first - block * size) (less (block * size) first size l.0 h) in
        rest (block * size) first count size (first % size) l.0 l.1 r
    fits (inr h) = none (block * size) first count size (first % size) h l.1 (mod-lt first some)

-- ---- steps

-- an extent that a job moves is its block's, where its mode has it moved, the block standing at this place, where its copy may be dirty
abbrev pub MovesAt : BlockJob → Option CBlock → Bool → Want → Type 0
MovesAt (Reading part) place dirty (Device (Read device e)) = LiesAt part.block_sectors part.block (place_read part.mode place) device e
MovesAt (Writing part) place dirty (Device (Write device e)) = LiesAmong part.block_sectors part.block (places_written part.mode place) device e × IfDirtied part.mode device dirty
MovesAt (Displacing part) place dirty (Device (Write device e)) = LiesAmong part.block_sectors part.block (places_written Passthrough place) device e
MovesAt (Migrating migration part) place dirty (Device (Read device e)) = IsCopyAt part.block_sectors part.block device place e × IfCache device dirty
MovesAt (Migrating migration part) place dirty (Device (Write device e)) = IsCopyAt part.block_sectors part.block device (copied_to migration) e × IfOrigin device dirty
MovesAt job place dirty (Device step) = ⊥
MovesAt job place dirty next = Unit {0}

-- The work of a job moves its block's extents alone. A write goes on from where its block is sealed dirty: at the place that was seen.
module _ (part : BlockRange) (some : 0 < part.block_sectors) (are : AreIn (part.block.0 * part.block_sectors) part.block_sectors part.extents) where
  of : (e : Extent) → Contains part.extents e → LiesIn (part.block.0 * part.block_sectors) part.block_sectors e
  of e m = subst (λ (x : Extent). LiesIn (part.block.0 * part.block_sectors) part.block_sectors x) m.2 (are m.0 e m.1)

  copied : (c : CBlock) (e : Extent) → Contains part.extents e → LiesIn (c.0 * part.block_sectors) part.block_sectors (cache_extent part c e)
  copied c e m = cache_in part.block_sectors part.block.0 c.0 e.first e.count some (of e m)

  pub reads_there : Works (Followed (MovesAt (Reading part))) (Reading part)
  reads_there = record {
    each = λ place dirty e ws m f t. each (place_read part.mode place) place dirty e ws refl m (f t);
    last = λ place dirty t. last (place_read part.mode place) place dirty;
  }
    where
      each : (from place : Option CBlock) (dirty : Bool) (e : Extent) (ws : List Want) → from ≡ place_read part.mode place → Contains part.extents e → IsFollowed (MovesAt (Reading part)) place dirty ws → IsFollowed (MovesAt (Reading part)) place dirty (read_step part from e ∷ ws)
      each None place dirty e ws is m f = (subst (λ (p : Option CBlock). LiesAt part.block_sectors part.block p Origin e) is (of e m), f)
      each (Some c) place dirty e ws is m f = (subst (λ (p : Option CBlock). LiesAt part.block_sectors part.block p Cache (cache_extent part c e)) is (copied c e m), f)

      last : (from place : Option CBlock) (dirty : Bool) → IsFollowed (MovesAt (Reading part)) place dirty (read_count from ∷ Cell (Release Shared part.block) ∷ [])
      last None place dirty = tt
      last (Some c) place dirty = tt

  abbrev Lies : List (Option CBlock) → Dev → Extent → Type 0
  Lies places device e = LiesAmong part.block_sectors part.block places device e

  pub writes_there : Works (Followed (MovesAt (Writing part))) (Writing part)
  writes_there = record {
    seal = λ c ws is f t. (
      tt,
      subst (λ (place : Option CBlock). IsFollowed (MovesAt (Writing part)) place (dirty_in (seal_word (Some c) true)) ws) (sym (t true))
          (subst (λ (dirty : Bool). IsFollowed (MovesAt (Writing part)) (Some c) dirty ws) (sym (dirty_told (Some c))) (f t)),
    );
    home = λ dirty e ws m f t. ((home part.mode e (of e m), at_home part.mode dirty), f t);
    cached = λ c dirty e ws sealed m f t. ((cached part.mode c (cache_extent part c e) sealed.0 (copied c e m), at_cache part.mode dirty sealed.1), f t);
    defers = λ c dirty is t. tt;
    through = λ c dirty e ws other m f t. ((through part.mode c e other (of e m), at_home part.mode dirty), f t);
    last = last;
  }
    where
      at_home : (mode : Mode) (dirty : Bool) → IfDirtied mode Origin dirty
      at_home Writeback dirty = tt
      at_home Writethrough dirty = tt
      at_home Passthrough dirty = tt

      at_cache : (mode : Mode) (dirty : Bool) → (mode ≡ Writeback → dirty ≡ true) → IfDirtied mode Cache dirty
      at_cache Writeback dirty sealed = sealed refl
      at_cache Writethrough dirty sealed = tt
      at_cache Passthrough dirty sealed = tt

      home : (mode : Mode) (e : Extent) → LiesIn (part.block.0 * part.block_sectors) part.block_sectors e → Lies (places_written mode None) Origin e
      home Writeback e l = inl l
      home Writethrough e l = inl l
      home Passthrough e l = inl l

      cached : (mode : Mode) (c : CBlock) (e : Extent) → mode ≢ Passthrough → LiesIn (c.0 * part.block_sectors) part.block_sectors e → Lies (places_written mode (Some c)) Cache e
      cached Writeback c e served l = inl l
      cached Writethrough c e served l = inr (inl l)
      cached Passthrough c e served l = absurd (served refl)

      through : (mode : Mode) (c : CBlock) (e : Extent) → mode ≢ Writeback → LiesIn (part.block.0 * part.block_sectors) part.block_sectors e → Lies (places_written mode (Some c)) Origin e
      through Writeback c e other l = absurd (other refl)
      through Writethrough c e other l = inl l
      through Passthrough c e other l = inl l

      last : (place : Option CBlock) (dirty : Bool) → Followed (MovesAt (Writing part)) place dirty (Cell (Finish part.block) ∷ write_count place ∷ Cell (Release Owned part.block) ∷ [])
      last None dirty t = tt
      last (Some c) dirty t = tt

  -- a block that leaves the cache is sealed to the origin before its write
  pub displaces_there : Works (Followed (MovesAt (Displacing part))) (Displacing part)
  displaces_there = record {
    drops = λ c dirty ws f t. (tt, f (λ d. none_told d));
    each = λ dirty e ws m f t. (inl (of e m), f t);
    last = last;
  }
    where
      none_told : (d : Bool) → place_in (seal_word None d) ≡ None
      none_told true = refl
      none_told false = refl

      last : (was : Option CBlock) (dirty : Bool) → Followed (MovesAt (Displacing part)) None dirty (Cell (Finish part.block) ∷ write_count was ∷ Cell (Release Owned part.block) ∷ [])
      last None dirty t = tt
      last (Some c) dirty t = tt

  pub copies_there : (migration : Migration) → Works (Followed (MovesAt (Migrating migration part))) (Migrating migration part)
  copies_there (Promote c) = record { each = λ place dirty e ws m f t. ((of e m, tt), ((copied c e m, tt), f t)); last = λ place dirty t. (tt, tt) }
  copies_there Demote = record { each = λ c e ws m f t. ((copied c e m, refl), ((of e m, refl), f t)); last = λ place dirty t. (tt, tt) }
  copies_there Clean = record { each = λ c e ws m f t. ((copied c e m, refl), ((of e m, refl), f t)); last = λ place dirty t. (tt, tt) }

-- what the next step of a job moves is its block's, where its seal tells
abbrev pub IsMoving : BlockJob → Card → Want → Type 0
IsMoving job card next = IsThere (MovesAt job) job card next

-- a request moves what it may in its mode
pub may_read : (part : BlockRange) (card : Card) (w : Want) → IsMoving (Reading part) card w → MayMove part.mode part.block_sectors card w
may_read part card (Device (Read device e)) m = record { access = Shared; block = part.block; seal = m.1.0; held = m.0; seen = m.1.1; at = m.1.2 }
may_read part card (Device step) m = absurd m.1.2
may_read part card w m = tt

pub may_write : (part : BlockRange) (card : Card) (w : Want) → IsMoving (Writing part) card w → MayMove part.mode part.block_sectors card w
may_write part card (Device (Write device e)) m = record { block = part.block; seal = m.1.0; owned = m.0; seen = m.1.1; dirty = m.1.2.1; at = m.1.2.0 }
may_write part card (Device step) m = absurd m.1.2
may_write part card w m = tt
