-- What holds of the blocks that are drawn.
use Rattle.std.proofs.Common.{◌≡◌, ◌⊎◌, ◌∙◌, ap, inl, inr, sym, subst, true, List, [], ◌∷◌, ◌++◌, Bool, Option, Some, None, Result, Ok, Err}
use Rattle.std.specs.Prelude.{All, IfOk, IfSome, IsSomeAnd, slice_index_or, slice_set}
use Rattle.std.proofs.lemmas.List.Elements.{All-nil, All-push, All-same, All-set, All-weaker}
use Rattle.wb_types.specs.declared.entry.Entry.{Entry}
use Rattle.wb_types.specs.declared.number.CBlock.{CBlock}
use Rattle.wb_types.specs.declared.number.Place.{Place}
use Rattle.wb_types.specs.Limits.{depth_of}
use Rattle.wb_disk.specs.Device.{Content}
use Rattle.wb_format.specs.declared.root.Root.{Root}
use Rattle.wb_tree.specs.Mapping.{Mapping}
use Rattle.wb_tree.specs.Reading.{IsNewestRoot}
use Rattle.wb_dirty.specs.ImageReading.{with_bits}
use Rattle.wb_meta.specs.States.{RepresentsState}
use Rattle.wb_checks.specs.declared.drawn.CleanBlock.{CleanBlock}
use Rattle.wb_checks.specs.Samples.{HasDrawn, IsCleanIn, IsMappedClean, Leads, MapsClean, MayDraw, TakesIn}

-- one block more
pub all_drawn : (P : CleanBlock → Type 0) (block : CleanBlock) (old new : List CleanBlock) → HasDrawn block old new → P block → All P old → All P new
all_drawn P block old new (inl pushed) here all = All-same P new (old ++ block ∷ []) pushed (All-push P old block all here)
all_drawn P block old new (inr (inl put)) here all = All-same P new (slice_set old put.0 block) put.1 (All-set P old put.0 block here all)
all_drawn P block old new (inr (inr same)) here all = All-same P new old same all

-- those of a state that was read
pub all_read_clean : (sectors : List Content) (root : Root) (tree : Mapping) (dirty : Option (List Bool)) (used : List Place) (drawn : List CleanBlock)
    → RepresentsState sectors root tree dirty used → (root.clean ≡ true) ⊎ (drawn ≡ []) → All (IsCleanIn (with_bits dirty tree.entries)) drawn → All (IsMappedClean sectors) drawn
all_read_clean sectors root tree dirty used drawn represents (inl flag) all =
    All-weaker (IsCleanIn (with_bits dirty tree.entries)) (IsMappedClean sectors)
    (λ block maps. inr (record { root = root; tree = tree; dirty = dirty; used = used; represents = represents; clean = flag; maps = maps })) drawn all
all_read_clean sectors root tree dirty used drawn represents (inr none) all = All-same (IsMappedClean sectors) drawn [] none (All-nil (IsMappedClean sectors))

-- one to which a walk led
pub found_clean : (sectors : List Content) (root : Root) (top : Place) (block : CleanBlock) (cache : CBlock) (found : Option Entry)
    → IsNewestRoot sectors root → root.clean ≡ true → root.top_dirty ≡ None → root.top ≡ Some top → block.cache ≡ cache
    → IfSome found (λ entry. Leads root sectors cache.0 entry (depth_of root.geometry.cache_blocks) top.0) → IsSomeAnd found (λ has. MapsClean has block)
    → IsMappedClean sectors block
found_clean sectors root top block cache None newest flag no_bits top_is cache_is leads maps = absurd maps
found_clean sectors root top block cache (Some entry) newest flag no_bits top_is cache_is leads maps = inl (record {
  root = root;
  newest = newest;
  clean = flag;
  no_bits = no_bits;
  top = top;
  top_is = top_is;
  entry = entry;
  leads = subst (λ (c : CBlock). Leads root sectors c.0 entry (depth_of root.geometry.cache_blocks) top.0) (sym cache_is) leads;
  maps = maps;
})

-- so all that were drawn are clean behind a walk
pub still_clean : (sectors : List Content) (root : Root) (top : Place) (cache : CBlock) (found : Option Entry) (old new : List CleanBlock)
    → IsNewestRoot sectors root → root.clean ≡ true → root.top_dirty ≡ None → root.top ≡ Some top
    → IfSome found (λ entry. Leads root sectors cache.0 entry (depth_of root.geometry.cache_blocks) top.0) → TakesIn cache found old new
    → All (IsMappedClean sectors) old → All (IsMappedClean sectors) new
still_clean sectors root top cache found old new newest flag no_bits top_is leads (inl same) all = All-same (IsMappedClean sectors) new old same all
still_clean sectors root top cache found old new newest flag no_bits top_is leads (inr taken) all =
    All-same (IsMappedClean sectors) new (old ++ taken.0 ∷ []) taken.1
    (All-push (IsMappedClean sectors) old taken.0 all (found_clean sectors root top taken.0 cache found newest flag no_bits top_is taken.2 leads taken.3))

-- and behind a look at an entry of a state
entry_clean : (entries : List (Option Entry)) (cache : CBlock) (found : Option Entry) (block : CleanBlock) → found ≡ slice_index_or entries cache.0 None
    → block.cache ≡ cache → IsSomeAnd found (λ entry. MapsClean entry block) → IsCleanIn entries block
entry_clean entries cache None block found_is cache_is maps = absurd maps
entry_clean entries cache (Some entry) block found_is cache_is maps = record {
  entry = entry;
  there = ap (λ (c : CBlock). slice_index_or entries c.0 None) cache_is ∙ sym found_is;
  maps = maps;
}

pub still_read : (entries : List (Option Entry)) (cache : CBlock) (found : Option Entry) (old new : List CleanBlock) → found ≡ slice_index_or entries cache.0 None
    → MayDraw cache found old new → All (IsCleanIn entries) old → All (IsCleanIn entries) new
still_read entries cache found old new found_is (inl same) all = All-same (IsCleanIn entries) new old same all
still_read entries cache found old new found_is (inr drawn) all =
    all_drawn (IsCleanIn entries) drawn.0 old new drawn.1 (entry_clean entries cache found drawn.0 found_is drawn.2 drawn.3) all

-- what two clauses on a result give together
pub ok_both : {T E : Type 0} (r : Result T E) (P Q R : T → Type 0) → ((x : T) → P x → Q x → R x) → IfOk r P → IfOk r Q → IfOk r R
ok_both (Ok x) P Q R both p q = both x p q
ok_both (Err e) P Q R both p q = tt
