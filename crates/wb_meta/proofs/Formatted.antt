-- What is left of a device that was formatted.
use Rattle.std.proofs.Common.{◌≡◌, ◌≤◌, ◌<◌, ℕ, List, Some, None, length, refl, sym, ◌∙◌, ap, arith, subst, inl, inr}
use Rattle.std.specs.List.{slice_get}
use Rattle.std.proofs.lemmas.List.{length-map}
use Rattle.std.proofs.lemmas.Option.{slice_get_cases}
use Rattle.wb_types.specs.declared.geometry.Geometry.{Geometry}
use Rattle.wb_disk.specs.Device.{Content, History, ReadGives, written, synced, only, newest}
use Rattle.wb_format.specs.declared.root.Root.{Root}
use Rattle.wb_format.specs.Bytes.{number_at}
use Rattle.wb_format.specs.Layout.{SpellsRoot}
use Rattle.wb_tree.specs.Reading.{top_read, nothing_found}
use Rattle.wb_disk.specs.Crashes.{AfterEveryCrash}
use Rattle.wb_meta.specs.Commits.{Every, Newest}
use Rattle.wb_meta.specs.Representing.{Represents, alone}
use Rattle.wb_meta.proofs.ImageFraming.{alone_read}
use Rattle.wb_meta.specs.Formats.{IsFirstRoot, IsFormatted, SlotsAlone}
use Rattle.wb_meta.specs.Steps.{Puts, zero_sector}
use Rattle.wb_meta.proofs.Histories.{Every-written, Newest-written, Newest-every, Every-synced, Every-left, length-written}

-- zeros spell no root of an odd generation
zero_generation : number_at zero_sector 8 8 ≡ 0
unfolding number_at
zero_generation = refl

abbrev HasZeros : ℕ → Content → Type 0
HasZeros at content = at ≡ 1 → content ≡ zero_sector

abbrev HasRoot : Root → ℕ → Content → Type 0
HasRoot root at content = at ≡ 0 → SpellsRoot content root

-- sectors with this root in the first slot and zeros in the second
sectors_left : (geometry : Geometry) (root : Root) (sectors : List Content) → IsFirstRoot geometry root → 2 ≤ length sectors
    → ((at : ℕ) (c : Content) → slice_get sectors at ≡ Some c → HasRoot root at c) → ((at : ℕ) (c : Content) → slice_get sectors at ≡ Some c → HasZeros at c) → Represents sectors root (alone (nothing_found root))
sectors_left geometry root sectors new size first second = elim (slice_get_cases sectors 0).1 [
  | inl w ↦ record {
    newest = record {
      slot = 0;
      sector = w.0;
      there = w.2;
      valid = record { spelled = first 0 w.0 w.2 refl; parity = omega (arith, new.generation) };
      newest = λ other another older off e valid. absurd (
          let low : other ≡ 1 = omega (arith, valid.parity, off) in
          let P : Content → Type 0 = λ c. number_at c 8 8 ≡ older.generation in
          let none : number_at zero_sector 8 8 ≡ older.generation = subst P (second other another e low) valid.spelled.generation in
          omega (arith, valid.parity, sym zero_generation ∙ none, low));
    };
    nodes = λ place. None;
    reached = λ place r. absurd (cc);
    reads = alone_read root (λ place. None) (nothing_found root) new.top_dirty (ap (λ t. top_read root (λ place. None) t) new.top);
    mapping = ap (λ t. top_read root (λ place. None) t) new.top;
  }
  | inr w ↦ absurd (omega (arith, size, w.0))
]

formatted_represents : (geometry : Geometry) (root : Root) (d0 d1 d2 d3 d4 d5 : List History) → IsFirstRoot geometry root → 2 ≤ length d0
    → d1 ≡ written d0 0 zero_sector → d2 ≡ written d1 1 zero_sector → d3 ≡ synced d2 → Puts (λ content. SpellsRoot content root) 0 d3 d4 → d5 ≡ synced d4 → AfterEveryCrash (λ sectors. Represents sectors root (alone (nothing_found root))) d5
formatted_represents geometry root d0 d1 d2 d3 d4 d5 new size w1 w2 s3 puts s5 sectors left =
    let NewestZeros : List History → Type 0 = Newest HasZeros in
    let EveryZeros : List History → Type 0 = Every HasZeros in
    let EveryRoot : List History → Type 0 = Every (HasRoot root) in
    let NewestRoot : List History → Type 0 = Newest (HasRoot root) in
    let zeros2 : Newest HasZeros d2 = subst NewestZeros (sym w2) (Newest-written (λ i c. Unit {0}) HasZeros d1 1 zero_sector (λ at h e. tt) (λ i c off was is. absurd (off is)) (λ is. refl)) in
    let zeros3 : Every HasZeros d3 = subst EveryZeros (sym s3) (Every-synced HasZeros d2 zeros2) in
    let zeros4 : Every HasZeros d4 = subst EveryZeros (sym puts.wrote) (Every-written HasZeros d3 0 puts.content zeros3 (λ is. absurd (omega (arith, is)))) in
    let zeros5 : Every HasZeros d5 = subst EveryZeros (sym s5) (Every-synced HasZeros d4 (Newest-every HasZeros d4 zeros4)) in
    let root4 : Newest (HasRoot root) d4 = subst NewestRoot (sym puts.wrote) (Newest-written (λ i c. Unit {0}) (HasRoot root) d3 0 puts.content (λ at h e. tt) (λ i c off was is. absurd (off is)) (λ is. puts.spelled)) in
    let root5 : Every (HasRoot root) d5 = subst EveryRoot (sym s5) (Every-synced (HasRoot root) d4 root4) in
    let len : List History → ℕ = λ d. length d in
    let same : length d5 ≡ length d0 =
    ap len s5 ∙ length-map d4 (λ h. only (newest h)) ∙ ap len puts.wrote ∙ length-written d3 0 puts.content ∙ ap len s3 ∙ length-map d2 (λ h. only (newest h))
    ∙ ap len w2 ∙ length-written d1 1 zero_sector ∙ ap len w1 ∙ length-written d0 0 zero_sector in
    sectors_left geometry root sectors new (omega (arith, left.size, same, size)) (Every-left (HasRoot root) d5 sectors root5 left) (Every-left HasZeros d5 sectors zeros5 left)

pub formatted_left : (geometry : Geometry) (root : Root) (d0 d1 d2 d3 d4 d5 : List History) → IsFirstRoot geometry root → 2 ≤ length d0
    → d1 ≡ written d0 0 zero_sector → d2 ≡ written d1 1 zero_sector → d3 ≡ synced d2 → Puts (λ content. SpellsRoot content root) 0 d3 d4 → d5 ≡ synced d4 → IsFormatted geometry d5
formatted_left geometry root d0 d1 d2 d3 d4 d5 new size w1 w2 s3 puts s5 = record {
  root = root;
  first = new;
  represents = formatted_represents geometry root d0 d1 d2 d3 d4 d5 new size w1 w2 s3 puts s5;
}

-- no sector behind the slots was written
pub slots_alone : (root : Root) (d0 d1 d2 d3 d4 d5 : List History) → d1 ≡ written d0 0 zero_sector → d2 ≡ written d1 1 zero_sector → d3 ≡ synced d2 → Puts (λ content. SpellsRoot content root) 0 d3 d4 → d5 ≡ synced d4 → SlotsAlone d0 d5
slots_alone root d0 d1 d2 d3 d4 d5 w1 w2 s3 puts s5 =
    let Holds_still : List History → Type 0 = Newest (λ at content. 2 ≤ at → ReadGives d0 at content) in
    let same = λ (d : List History) (at : ℕ) (content : Content) (slot : at < 2) (was : Newest (λ at content. 2 ≤ at → ReadGives d0 at content) d).
    Newest-written (λ at content. 2 ≤ at → ReadGives d0 at content) (λ at content. 2 ≤ at → ReadGives d0 at content) d at content was (λ i c off before. before) (λ behind. absurd (omega (arith, behind, slot))) in
    let after_sync = λ (d : List History) (was : Newest (λ at content. 2 ≤ at → ReadGives d0 at content) d).
    Newest-every (λ at content. 2 ≤ at → ReadGives d0 at content) (synced d) (Every-synced (λ at content. 2 ≤ at → ReadGives d0 at content) d was) in
    let n0 : Newest (λ at content. 2 ≤ at → ReadGives d0 at content) d0 = λ at h e behind. (h, e, refl) in
    let n1 = subst Holds_still (sym w1) (same d0 0 zero_sector (omega arith) n0) in
    let n2 = subst Holds_still (sym w2) (same d1 1 zero_sector (omega arith) n1) in
    let n3 = subst Holds_still (sym s3) (after_sync d2 n2) in
    let n4 = subst Holds_still (sym puts.wrote) (same d3 0 puts.content (omega arith) n3) in
    subst Holds_still (sym s5) (after_sync d4 n4)
