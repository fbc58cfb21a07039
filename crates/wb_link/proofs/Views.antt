-- What an actor may know of the contents machine's state, as views that only a holder changes.
use Rattle.std.proofs.Common.{◌≡◌, ℕ, Bool, Option}
use Rattle.wb_disk.specs.Device.{Content, History, newest}
use Rattle.wb_contents.specs.Volume.{Volume, Standing, location}
use Rattle.wb_link.specs.World.{Held, Nothing, Shares, Owns}

-- Of a block: where it stands, whether it is dirty, what its location and its sectors of the origin have last, how each
-- sector stands, and its histories. Who holds the block knows that nobody else changes this.
pub record BlockView : Type 0 where
  pub location : Option ℕ
  pub dirty : Bool
  pub latest : ℕ → Content
  pub base : ℕ → Content
  pub standing : ℕ → Standing
  pub histories : ℕ → History
  pub finished : ℕ → ℕ

abbrev pub block_view : Volume → ℕ → BlockView
block_view d b = record {
  location = d.mapping b;
  dirty = d.dirty b;
  latest = λ o. newest (location d d.mapping b o);
  base = λ o. newest (d.origin b o);
  standing = d.standing b;
  histories = d.histories b;
  finished = d.finished b;
}

pub same_view : (d e : Volume) (b : ℕ) → e.mapping b ≡ d.mapping b → e.dirty b ≡ d.dirty b → ((o : ℕ) → newest (location e e.mapping b o) ≡ newest (location d d.mapping b o)) →
    ((o : ℕ) → newest (e.origin b o) ≡ newest (d.origin b o)) → e.standing b ≡ d.standing b → e.histories b ≡ d.histories b → e.finished b ≡ d.finished b → block_view e b ≡ block_view d b
same_view d e b m f l o s g h = λ i. record { finished = h i; location = m i; dirty = f i; latest = λ x. l x i; base = λ x. o x i; standing = s i; histories = g i }

-- Of the running commit: who leads it knows that nobody else changes this.
pub record CommitView : Type 0 where
  pub root_written : Bool
  pub cache_synced : Bool
  pub origin_synced : Bool
  pub began : ℕ
  pub ended : ℕ

abbrev pub commit_view : Volume → CommitView
commit_view d = record { root_written = d.root_written; cache_synced = d.cache_synced; origin_synced = d.origin_synced; began = d.began; ended = d.ended }

-- Holding a block, by a share or an own
abbrev pub Holds : Held → ℕ → Type 0
Holds Nothing b = ⊥
Holds (Shares c) b = c ≡ b
Holds (Owns c) b = c ≡ b
