-- What comparing pieces of two devices tells.
use Rattle.std.proofs.Common.{◌≡◌, ◌∙◌, ◌+◌, ◌<◌, ◌≤◌, ◌⊎◌, inl, inr, true, Bool, ℕ, List, length, take, get_or, sym, ap, subst, arith}
use Rattle.std.specs.Prelude.{All, IfErr, IsErrAnd, Result, Ok, Err}
use Rattle.std.specs.Bool.{OnTrue}
use Rattle.std.proofs.lemmas.List.{take_all}
use Rattle.std.proofs.lemmas.List.Elements.{All-more, All-same}
use Rattle.wb_types.specs.declared.mode.Dev.{Dev}
use Rattle.wb_types.specs.declared.mode.Dev.TheVariants.{Cache, Origin}
use Rattle.wb_types.specs.declared.refusal.Refusal.{Refusal}
use Rattle.wb_types.specs.declared.refusal.Refusal.TheVariants.{Io, Memory as OutOfMemory}
use Rattle.wb_disk.specs.Device.{Content, History}
use Rattle.wb_disk.specs.Extents.{GivesEach}
use Rattle.wb_devices.specs.declared.devices.Devices.{Devices}
use Rattle.wb_checks.specs.declared.drawn.CleanBlock.{CleanBlock}
use Rattle.wb_checks.specs.Samples.{AreAsBefore, AreSame, HaveSizes, IsSameOnBoth, held_from}
use Rattle.wb_checks.proofs.Holding.{gives_held, held_more}

-- a read that fills its buffer gives what the sectors hold
pub gives_all : (device : List History) (first count room : ℕ) (contents : List Content) → length contents ≡ room → count ≡ room
    → GivesEach device first (take count contents) → contents ≡ held_from device first room
gives_all device first count room contents long fills gives =
    let whole : take count contents ≡ contents = take_all count contents (omega arith) in
    let held = gives_held device first contents (subst (λ (xs : List Content). GivesEach device first xs) whole gives) in
    held ∙ ap (λ (n : ℕ). held_from device first n) long

-- one piece more is the same
pub same_more : (cache origin cache' origin' : List History) (c o done from count n : ℕ) → cache' ≡ cache → origin' ≡ origin → from ≡ done → n ≡ count
    → AreSame cache origin c o done → AreSame cache' origin' (c + from) (o + from) n → AreSame cache origin c o (done + count)
same_more cache origin cache' origin' c o done from count n left right at long before here =
    let one = held_more cache c done count in
    let two = held_more origin o done count in
    let p : held_from cache (c + done) count ≡ held_from origin (o + done) count =
    rw (sym left, sym right, sym at, sym long) here in
    cc

-- sizes stay on the way
pub sizes_on : {D : Type 0} (size : D → ℕ) (a b c : Devices D) → HaveSizes size a b → HaveSizes size b c → HaveSizes size a c
sizes_on size a b c first next = record {
  metadata = next.metadata ∙ first.metadata;
  cache = next.cache ∙ first.cache;
  origin = next.origin ∙ first.origin;
}

-- and so do contents
pub before_on : {D : Type 0} (contents : D → List History) (a b c : Devices D) → AreAsBefore contents a b → AreAsBefore contents b c → AreAsBefore contents a c
before_on contents a b c first next = record {
  metadata = next.metadata ∙ first.metadata;
  cache = next.cache ∙ first.cache;
  origin = next.origin ∙ first.origin;
}

-- one block more is the same
pub same_block_more : (cache origin cache' origin' : List History) (size : ℕ) (drawn : List CleanBlock) (i : ℕ) (d : CleanBlock) (same : Bool) → cache' ≡ cache → origin' ≡ origin
    → i < length drawn → same ≡ true → All (IsSameOnBoth cache origin size) (take i drawn) → OnTrue same (IsSameOnBoth cache' origin' size (get_or drawn i d))
    → All (IsSameOnBoth cache origin size) (take (i + 1) drawn)
same_block_more cache origin cache' origin' size drawn i d same left right inside is before here =
    let block = get_or drawn i d in
    let one : IsSameOnBoth cache' origin' size block = subst (λ (b : Bool). OnTrue b (IsSameOnBoth cache' origin' size block)) is here in
    let two : IsSameOnBoth cache origin' size block = subst (λ (xs : List History). IsSameOnBoth xs origin' size block) left one in
    let three : IsSameOnBoth cache origin size block = subst (λ (xs : List History). IsSameOnBoth cache xs size block) right two in
    All-more (IsSameOnBoth cache origin size) drawn i d inside before three

-- all of them are
pub same_blocks : (cache origin : List History) (size : ℕ) (drawn : List CleanBlock) (i : ℕ) → length drawn ≤ i → All (IsSameOnBoth cache origin size) (take i drawn)
    → All (IsSameOnBoth cache origin size) drawn
same_blocks cache origin size drawn i past all = All-same (IsSameOnBoth cache origin size) drawn (take i drawn) (sym (take_all i drawn past)) all

-- the failure of one device or the other
pub failed_io : {T : Type 0} (result : Result T Refusal) (refusal : Refusal) → IsErrAnd result (λ e. e ≡ refusal) → (refusal ≡ Io Cache) ⊎ (refusal ≡ Io Origin)
    → IfErr result (λ r. ((device : Dev) × (r ≡ Io device)) ⊎ (r ≡ OutOfMemory))
failed_io (Ok x) refusal handed failed = tt
failed_io (Err e) refusal handed (inl cache) = inl (Cache, handed ∙ cache)
failed_io (Err e) refusal handed (inr origin) = inl (Origin, handed ∙ origin)
