-- Each act of the contents machine beside the step of the world that it stands for: devices, mapping and images agree
-- after it.
use Rattle.std.proofs.Common.{◌≡◌, ◌+◌, ℕ, Bool, true, false, cond, Option, Some, None, refl, sym, ap, subst, ◌∙◌}
use Rattle.wb_disk.specs.Device.{Content, History, added, newest}
use Rattle.wb_contents.specs.Volume.{Locations, Standing, Volume, changed, changed_at, location}
use Rattle.wb_contents.specs.Acts.{all_synced, partly_synced, sector_written, volume_after as after_act, written_through, Write_origin, Fail_write, Finish, Fill_cache, Copy_back, Map, Unmap, Begin_commit, Begin_suspend, Sync_cache, Sync_origin, Fail_cache_sync, Fail_origin_sync, Write_root, End_commit, Begin_flush, End_flush}
use Rattle.wb_link.specs.Tables.{Seal}
use Rattle.wb_link.specs.World.{Shared, Block, put_sector}
use Rattle.wb_link.proofs.Link.{Agrees, Rests}
use Rattle.wb_link.proofs.Views.{block_view}

-- devices and mapping change alike, and nothing else that is compared
moved_agrees : {origin cache origin' cache' : ℕ → ℕ → History} {mapping mapping' : Locations} {seals : ℕ → Seal} {blocks : ℕ → Block} {fail broken cache_synced origin_synced : Bool} {dirty : ℕ → Bool} {histories : ℕ → ℕ → History} {standing : ℕ → ℕ → Standing} {finished floor : ℕ → ℕ → ℕ} {ticket : ℕ → ℕ} {then_finished : ℕ → ℕ → ℕ → ℕ}
    (t : Shared) (e : Volume) → origin ≡ origin' → cache ≡ cache' → mapping ≡ mapping' → Agrees t e → Agrees (record t { origin = origin; cache = cache; mapping = mapping; seals = seals; blocks = blocks; fail = fail; broken = broken })
    (record e { origin = origin'; cache = cache'; mapping = mapping'; dirty = dirty; cache_synced = cache_synced; origin_synced = origin_synced; histories = histories; standing = standing; finished = finished; floor = floor; ticket = ticket; then_finished = then_finished })
moved_agrees t e origin cache mapping g = record {
  told = record { origin = origin; cache = cache; committed = g.told.committed; running = g.told.running; root_written = g.told.root_written; committed_clean = g.told.committed_clean; running_clean = g.told.running_clean };
  mapping = mapping;
  live = g.live;
  mode = g.mode;
  began = g.began;
  ended = g.ended;
}

-- a write by route
pub write_agrees : (t : Shared) (e : Volume) (to : Option ℕ) (b o : ℕ) (c : Content) → to ≡ e.mapping b → Agrees t e → Agrees (put_sector t to b o c) (sector_written e (e.mapping b) b o c)
write_agrees t e to b o c k g = subst (λ (q : Option ℕ). Agrees (put_sector t q b o c) (sector_written e (e.mapping b) b o c)) (sym k) (go (e.mapping b)) where
  go : (p : Option ℕ) → Agrees (put_sector t p b o c) (sector_written e p b o c)
  go None = moved_agrees t e (ap (λ f. changed_at f b o (added (f b o) c)) g.told.origin) g.told.cache g.mapping g
  go (Some j) = moved_agrees t e g.told.origin (ap (λ f. changed_at f j o (added (f j o) c)) g.told.cache) g.mapping g

-- what of the machine is the world's stays as it is
pub finish_agrees : (t : Shared) (e : Volume) (b o : ℕ) → Agrees t e → Agrees t (after_act e (Finish b o))
finish_agrees t e b o g = moved_agrees t e g.told.origin g.told.cache g.mapping g

pub lose_agrees : (t : Shared) (e : Volume) (b o : ℕ) (c : Content) → Agrees t e → Agrees t (after_act e (Fail_write b o c))
lose_agrees t e b o c g = moved_agrees t e g.told.origin g.told.cache g.mapping g

pub failed_agrees : (t : Shared) (e : Volume) → Agrees t e → Agrees (record t { fail = true }) e
failed_agrees t e g = moved_agrees t e g.told.origin g.told.cache g.mapping g

pub broken_agrees : (t : Shared) (e : Volume) → Agrees t e → Agrees (record t { broken = true }) e
broken_agrees t e g = moved_agrees t e g.told.origin g.told.cache g.mapping g

pub seal_agrees : (t : Shared) (e : Volume) (seals : ℕ → Seal) (dirty : ℕ → Bool) → Agrees t e → Agrees (record t { seals = seals }) (record e { dirty = dirty })
seal_agrees t e seals dirty g = moved_agrees t e g.told.origin g.told.cache g.mapping g

pub begin_agrees : (t : Shared) (e : Volume) (blocks : ℕ → Block) → Agrees t e → Agrees (record t { began = t.began + 1; committing = true; running_clean = λ b. false; running = t.mapping; blocks = blocks }) (after_act e Begin_commit)
begin_agrees t e blocks g = record { told = record { origin = g.told.origin; cache = g.told.cache; committed = g.told.committed; running = g.mapping; root_written = g.told.root_written; committed_clean = g.told.committed_clean; running_clean = λ b k e. refl }; mapping = g.mapping; live = g.live; mode = g.mode; began = ap (λ n. n + 1) g.began; ended = g.ended }

pub cached_agrees : (t : Shared) (e : Volume) → Agrees t e → Agrees (record t { cache = all_synced t.cache }) (after_act e Sync_cache)
cached_agrees t e g = moved_agrees t e g.told.origin (ap (λ f. all_synced f) g.told.cache) g.mapping g

pub based_agrees : (t : Shared) (e : Volume) → Agrees t e → Agrees (record t { origin = all_synced t.origin }) (after_act e Sync_origin)
based_agrees t e g = moved_agrees t e (ap (λ f. all_synced f) g.told.origin) g.told.cache g.mapping g

pub cached_partly_agrees : (t : Shared) (e : Volume) (choice : ℕ → ℕ → Bool) → Agrees t e → Agrees (record t { cache = partly_synced choice t.cache }) (after_act e (Fail_cache_sync choice))
cached_partly_agrees t e choice g = moved_agrees t e g.told.origin (ap (λ f. partly_synced choice f) g.told.cache) g.mapping g

pub based_partly_agrees : (t : Shared) (e : Volume) (choice : ℕ → ℕ → Bool) → Agrees t e → Agrees (record t { origin = partly_synced choice t.origin }) (after_act e (Fail_origin_sync choice))
based_partly_agrees t e choice g = moved_agrees t e (ap (λ f. partly_synced choice f) g.told.origin) g.told.cache g.mapping g

pub root_agrees : (t : Shared) (e : Volume) → Agrees t e → Agrees (record t { root_written = true }) (after_act e Write_root)
root_agrees t e g = record { told = record { origin = g.told.origin; cache = g.told.cache; committed = g.told.committed; running = g.told.running; root_written = refl; committed_clean = g.told.committed_clean; running_clean = g.told.running_clean }; mapping = g.mapping; live = g.live; mode = g.mode; began = g.began; ended = g.ended }

pub end_agrees : (t : Shared) (e : Volume) (blocks : ℕ → Block) → Agrees t e → Agrees (record t { ended = t.began; committing = false; committed_clean = t.running_clean; committed = t.running; root_written = false; blocks = blocks }) (after_act e End_commit)
end_agrees t e blocks g = record { told = record { origin = g.told.origin; cache = g.told.cache; committed = g.told.running; running = g.told.running; root_written = refl; committed_clean = g.told.running_clean; running_clean = g.told.running_clean }; mapping = g.mapping; live = g.live; mode = g.mode; began = g.began; ended = g.began }

pub flush_agrees : (t : Shared) (e : Volume) (a : ℕ) → Agrees t e → Agrees t (after_act e (End_flush a))
flush_agrees t e a g = moved_agrees t e g.told.origin g.told.cache g.mapping g

pub asked_agrees : (t : Shared) (e : Volume) (a : ℕ) → Agrees t e → Agrees t (after_act e (Begin_flush a))
asked_agrees t e a g = moved_agrees t e g.told.origin g.told.cache g.mapping g

pub fill_agrees : (t : Shared) (e : Volume) (k b o : ℕ) (c : Content) → Agrees t e → Agrees (put_sector t (Some k) b o c) (after_act e (Fill_cache k o c))
fill_agrees t e k b o c g = moved_agrees t e g.told.origin (ap (λ f. changed_at f k o (added (f k o) c)) g.told.cache) g.mapping g

pub empty_agrees : (t : Shared) (e : Volume) (b o : ℕ) (c : Content) → c ≡ newest (location e e.mapping b o) → Agrees t e → Agrees (put_sector t None b o c) (after_act e (Copy_back b o))
empty_agrees t e b o c is g = moved_agrees t e (ap (λ x. changed_at t.origin b o (added (t.origin b o) x)) is ∙ ap (λ f. changed_at f b o (added (f b o) (newest (location e e.mapping b o)))) g.told.origin) g.told.cache g.mapping g

pub map_agrees : (t : Shared) (e : Volume) (b k : ℕ) (blocks : ℕ → Block) → Agrees t e → Agrees (record t { mapping = changed t.mapping b (Some k); blocks = blocks }) (after_act e (Map b k))
map_agrees t e b k blocks g = moved_agrees t e g.told.origin g.told.cache (ap (λ f. changed f b (Some k)) g.mapping) g

pub unmap_agrees : (t : Shared) (e : Volume) (b : ℕ) (blocks : ℕ → Block) → Agrees t e → Agrees (record t { mapping = changed t.mapping b None; blocks = blocks }) (after_act e (Unmap b))
unmap_agrees t e b blocks g = moved_agrees t e g.told.origin g.told.cache (ap (λ f. changed f b None) g.mapping) g

pub blocks_agrees : (t : Shared) (e : Volume) (blocks : ℕ → Block) → Agrees t e → Agrees (record t { blocks = blocks }) e
blocks_agrees t e blocks g = moved_agrees t e g.told.origin g.told.cache g.mapping g

pub suspend_agrees : (t : Shared) (e : Volume) (blocks : ℕ → Block) → ((b : ℕ) → Rests (t.seals b) (block_view e b)) → Agrees t e → Agrees (record t { began = t.began + 1; running_clean = λ b. cond (t.seals b).dirty false true; committing = true; running = t.mapping; blocks = blocks; live = false }) (after_act e Begin_suspend)
suspend_agrees t e blocks rest g = record {
  told = record { origin = g.told.origin; cache = g.told.cache; committed = g.told.committed; running = g.mapping; root_written = g.told.root_written; committed_clean = g.told.committed_clean; running_clean = λ b k m. ap (λ v. cond v false true) ((rest b).dirty k (sym (ap (λ f. f b) g.mapping) ∙ m)) };
  mapping = g.mapping;
  live = refl;
  mode = g.mode;
  began = ap (λ n. n + 1) g.began;
  ended = g.ended;
}

pub based_write_agrees : (t : Shared) (e : Volume) (b o : ℕ) (c : Content) → Agrees t e → Agrees (put_sector t None b o c) (after_act e (Write_origin b o c))
based_write_agrees t e b o c g = moved_agrees t e (ap (λ f. changed_at f b o (added (f b o) c)) g.told.origin) g.told.cache g.mapping g

pub through_agrees : (t : Shared) (e : Volume) (k b o : ℕ) (c : Content) → c ≡ newest (e.histories b o) → Agrees t e → Agrees (put_sector t (Some k) b o c) (written_through e (Some k) b o)
through_agrees t e k b o c is g = moved_agrees t e g.told.origin (ap (λ x. changed_at t.cache k o (added (t.cache k o) x)) is ∙ ap (λ f. changed_at f k o (added (f k o) (newest (e.histories b o)))) g.told.cache) g.mapping g
