-- What a crash keeps, and the marks by which it is carried out.
use Rattle.std.proofs.Common.{◌≡◌, ◌<◌, ◌+◌, ℕ, zero, suc, Bool, true, false, List, [], ◌∷◌, Some, length, get_or, take, drop, map, refl, sym, ◌∙◌, ap, arith, slice_set, subst, add-zero, inl, inr}
use Rattle.std.specs.Prelude.{unwrap_or, All, Contains, ◌==◌, ◌&&◌, if◌then◌else◌}
use Rattle.std.proofs.lemmas.Grind.{common_steps}
use Rattle.std.proofs.lemmas.Bool.Decides.{nat_tests}
use Rattle.std.proofs.lemmas.List.{map-set, drop_more, take_more}
use Rattle.std.proofs.lemmas.List.Elements.{All-push}
use Rattle.std.proofs.lemmas.Option.{gets, slice_get-map, slice_get-get_or, slice_get_within, get_or_from_slice_get, slice_get_cases}
use Rattle.std.specs.Option.{option_map}
use Rattle.std.specs.List.{slice_get}
use Rattle.wb_types.specs.declared.mode.Dev.{Dev}
use Rattle.wb_disk.specs.Device.{Content, History, entries, only, MayKeep, Crashed, EachSector}
use Rattle.wb_disk.specs.Crash.{Choice, Applies, base_position, is_device, named_position, chosen_position, content_at, crashed, crashed_from}
use Rattle.wb_disk.specs.Stored.{history, histories, marks, marks_named, cut_at_mark, HasMark, IsMarked}
use Rattle.wb_disk.specs.declared.crash_choice.NamedContent.{NamedContent}
use Rattle.wb_disk.specs.declared.pending.Pending.{Pending}

-- a name moves the mark of its sector, and of no other
pub slice_get-named : (mine : Bool) (ms : List ℕ) (s position at m : ℕ) → slice_get ms at ≡ Some m → slice_get (if mine then slice_set ms s position else ms) at ≡ Some (if mine && (s == at) then position else m)
slice_get-named true ms s position at m e = grind (arith, common_steps, gets, nat_tests)
slice_get-named false ms s position at m e = e

-- names leave a mark at the last of them for its sector
pub slice_get-marks_named : (device : Dev) (names : List NamedContent) (ms : List ℕ) (at m : ℕ) → slice_get ms at ≡ Some m → slice_get (marks_named device names ms) at ≡ Some (named_position device names at m)
slice_get-marks_named device [] ms at m e = e
slice_get-marks_named device (name ∷ names) ms at m e =
    let mine = is_device name.device device in
    slice_get-marks_named device names (if mine then slice_set ms name.sector name.position else ms) at (if mine && (name.sector == at) then name.position else m) (slice_get-named mine ms name.sector name.position at m e)

-- one name more was carried over to the marks
pub marks_named-more : (device : Dev) (names : List NamedContent) (i : ℕ) (d : NamedContent) (ps : List Pending) (q : Pending) → i < length names → is_device (get_or names i d).device device ≡ true → q.mark ≡ (get_or names i d).position → marks_named device (drop (i + 1) names) (marks (slice_set ps (get_or names i d).sector q)) ≡ marks_named device (drop i names) (marks ps)
marks_named-more device names i d ps q b mine e =
    let name = get_or names i d in
    ap (λ ms. marks_named device (drop (i + 1) names) ms) (map-set (λ p. p.mark) ps name.sector q ∙ ap (λ m. slice_set (marks ps) name.sector m) e)
    ∙ sym (ap (λ (t : Bool). marks_named device (drop (i + 1) names) (if t then slice_set (marks ps) name.sector name.position else marks ps)) mine)
    ∙ sym (ap (λ ns. marks_named device ns (marks ps)) (drop_more names i d b))

-- one of another device was passed over
pub marks_named-passed : (device : Dev) (names : List NamedContent) (i : ℕ) (d : NamedContent) (ms : List ℕ) → i < length names → is_device (get_or names i d).device device ≡ false → marks_named device (drop (i + 1) names) ms ≡ marks_named device (drop i names) ms
marks_named-passed device names i d ms b other =
    let name = get_or names i d in
    sym (ap (λ (t : Bool). marks_named device (drop (i + 1) names) (if t then slice_set ms name.sector name.position else ms)) other)
    ∙ sym (ap (λ ns. marks_named device ns ms) (drop_more names i d b))

-- one element more
pub All-take_more : {X : Type 0} (P : X → Type 0) (xs : List X) (i : ℕ) (d : X) → i < length xs → All P (take i xs) → P (get_or xs i d) → All P (take (i + 1) xs)
All-take_more P xs i d b before here = rw (take_more xs i d b) (All-push P (take i xs) (get_or xs i d) before here)

-- base and names together mark the chosen contents
pub IsMarked-named : (device : Dev) (choice : Choice) (ps qs : List Pending) → marks qs ≡ marks_named device choice.named (map (base_position choice.base) (histories ps)) → histories qs ≡ histories ps → IsMarked device choice qs
IsMarked-named device choice ps qs m h at p e =
    let mark : slice_get (marks qs) at ≡ Some p.mark = slice_get-map (λ q. q.mark) qs at ∙ ap (option_map (λ q. q.mark)) e in
    let here : slice_get (histories ps) at ≡ Some (history p) = ap (λ d. slice_get d at) (sym h) ∙ slice_get-map history qs at ∙ ap (option_map history) e in
    let based : slice_get (map (base_position choice.base) (histories ps)) at ≡ Some (base_position choice.base (history p)) =
    slice_get-map (base_position choice.base) (histories ps) at ∙ ap (option_map (base_position choice.base)) here in
    let chosen = slice_get-marks_named device choice.named (map (base_position choice.base) (histories ps)) at (base_position choice.base (history p)) based in
    let same : Some p.mark ≡ Some (chosen_position device choice at (history p)) = sym mark ∙ ap (λ ms. slice_get ms at) m ∙ chosen in
    cc

-- the stored sector behind a list of contents
pub stored_at : (ps : List Pending) (at : ℕ) (h : History) → slice_get (histories ps) at ≡ Some h → (p : Pending) × (slice_get ps at ≡ Some p) × (history p ≡ h)
stored_at [] at h e = absurd (cc)
stored_at (p ∷ ps) zero h e = (p, refl, cc)
stored_at (p ∷ ps) (suc at) h e = stored_at ps at h e

-- a choice applies where each mark that it makes is at a content
pub Applies-from_marks : (device : Dev) (choice : Choice) (ps : List Pending) (sectors : List History) → histories ps ≡ sectors → IsMarked device choice ps → All (λ name. name.device ≡ device → name.sector < length sectors) choice.named → All HasMark ps → Applies device choice sectors
Applies-from_marks device choice ps sectors v marked inside has = record {
  inside = inside;
  there = λ at h e.
      let found = stored_at ps at h (ap (λ d. slice_get d at) v ∙ e) in
      let p : Pending = found.0 in
      let here : slice_get ps at ≡ Some p = found.1 in
      let within : at < length ps = slice_get_within ps at p here in
      let same : get_or ps at p ≡ p = get_or_from_slice_get ps at p p here in
      let Q : Pending → Type 0 = HasMark in
      let marked_there : p.mark < length (entries (history p)) = subst Q same (has at p within) in
      let position : p.mark ≡ chosen_position device choice at (history p) = marked at p here in
      let R : History → Type 0 = λ g. chosen_position device choice at g < length (entries g) in
      let S : ℕ → Type 0 = λ n. n < length (entries (history p)) in
      subst R found.2 (subst S position marked_there);
}

-- and only there
pub HasMark-from_Applies : (device : Dev) (choice : Choice) (ps : List Pending) (sectors : List History) → histories ps ≡ sectors → IsMarked device choice ps → Applies device choice sectors → All HasMark ps
HasMark-from_Applies device choice ps sectors v marked applies k d b =
    let p : Pending = get_or ps k d in
    let here : slice_get ps k ≡ Some p = slice_get-get_or ps k d b in
    let seen : slice_get sectors k ≡ Some (history p) = ap (λ e. slice_get e k) (sym v) ∙ slice_get-map history ps k ∙ ap (option_map history) here in
    let S : ℕ → Type 0 = λ n. n < length (entries (history p)) in
    subst S (sym (marked k p here)) (applies.there k (history p) seen)

-- all sectors cut at their marks: the crash by that choice
pub crashed_from-marked : (device : Dev) (choice : Choice) (n : ℕ) (ps : List Pending) → ((at : ℕ) (p : Pending) → slice_get ps at ≡ Some p → p.mark ≡ chosen_position device choice (n + at) (history p)) → map cut_at_mark ps ≡ crashed_from device choice n (histories ps)
crashed_from-marked device choice n [] marked = refl
crashed_from-marked device choice n (p ∷ ps) marked =
    let first : p.mark ≡ chosen_position device choice n (history p) = rw (sym (add-zero n)) (marked 0 p refl) in
    ap (λ m. only (content_at (history p) m) ∷ map cut_at_mark ps) first
    ∙ ap (λ rest. only (content_at (history p) (chosen_position device choice n (history p))) ∷ rest)
    (crashed_from-marked device choice (suc n) ps (λ at q e.
    let same : n + suc at ≡ suc n + at = omega arith in
    marked (suc at) q e ∙ ap (λ m. chosen_position device choice m (history q)) same))

pub crashed-marked : (device : Dev) (choice : Choice) (ps : List Pending) → IsMarked device choice ps → map cut_at_mark ps ≡ crashed device choice (histories ps)
crashed-marked device choice ps marked = crashed_from-marked device choice 0 ps (λ at p e.
    let same : at ≡ 0 + at = omega arith in
    marked at p e ∙ ap (λ m. chosen_position device choice m (history p)) same)

-- the content at a position is one of the list
pub Contains-content_at : (h : History) (position : ℕ) → Contains (entries h) (content_at h position)
Contains-content_at h position =
    let P : Content → Type 0 = Contains (entries h) in
    elim (slice_get_cases (entries h) position).1 [
      | inl w ↦
          let same : content_at h position ≡ w.0 = ap (λ found. unwrap_or found h.first) w.2 in
          subst P (sym same) (position, w.1, w.3)
      | inr w ↦
          let same : content_at h position ≡ h.first = ap (λ found. unwrap_or found h.first) w.1 in
          subst P (sym same) (0, omega arith, refl)
    ]

-- a sector more before the others
pub EachSector-cons_at : (how : History → History → Type 0) (h g : History) (hs gs : List History) → how h g → EachSector how hs gs → (at : ℕ) (a b : History) → slice_get (h ∷ hs) at ≡ Some a → slice_get (g ∷ gs) at ≡ Some b → how a b
EachSector-cons_at how h g hs gs first rest zero a b e f =
    let old : h ≡ a = cc in
    let new : g ≡ b = cc in
    let P : History → Type 0 = λ x. how x g in
    let Q : History → Type 0 = λ y. how a y in
    subst Q new (subst P old first)
EachSector-cons_at how h g hs gs first rest (suc at) a b e f = rest.each at a b e f

pub EachSector-cons : (how : History → History → Type 0) (h g : History) (hs gs : List History) → how h g → EachSector how hs gs → EachSector how (h ∷ hs) (g ∷ gs)
EachSector-cons how h g hs gs first rest = record {
  size = ap (λ n. suc n) rest.size;
  each = EachSector-cons_at how h g hs gs first rest;
}

-- a crash by a choice keeps one content of each list
pub Crashed-crashed_from : (device : Dev) (choice : Choice) (n : ℕ) (sectors : List History) → Crashed sectors (crashed_from device choice n sectors)
Crashed-crashed_from device choice n [] = record { size = refl; each = λ at h g e f. absurd (cc) }
Crashed-crashed_from device choice n (h ∷ hs) =
    let kept = content_at h (chosen_position device choice n h) in
    EachSector-cons MayKeep h (only kept) hs (crashed_from device choice (suc n) hs) (kept, Contains-content_at h (chosen_position device choice n h), refl) (Crashed-crashed_from device choice (suc n) hs)
