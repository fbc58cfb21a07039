-- What a request that is answered done has moved between the caller's slice and a device.
use Rattle.std.proofs.Common.{◌≡◌, ◌≤◌, ◌+◌, ◌-◌, ◌*◌, ◌%◌, ℕ, min, List, [], ◌∷◌, Option, Some, None, length, take, drop, refl, sym, ap, ◌∙◌, subst, arith}
use Rattle.std.proofs.lemmas.List.{take_all}
use Rattle.wb_types.specs.declared.extent.Extent.{Extent}
use Rattle.wb_types.specs.declared.mode.Mode.{Mode}
use Rattle.wb_types.specs.declared.mode.Mode.TheVariants.{Writethrough}
use Rattle.wb_types.specs.declared.mode.Dev.{Dev}
use Rattle.wb_types.specs.declared.mode.Dev.TheVariants.{Metadata, Cache, Origin}
use Rattle.wb_types.specs.declared.number.CBlock.{CBlock}
use Rattle.wb_disk.specs.Device.{History, Content}
use Rattle.wb_disk.specs.Extents.{GivesEach, written_each}
use Rattle.wb_cells.specs.Passes.{PassState}
use Rattle.wb_tasks.specs.Tables.{BlockRange, device_at, read_step, write_step}
use Rattle.wb_tasks.specs.declared.step.Got.TheVariants.{Done}
use Rattle.wb_devices.specs.Moving.{OthersStay, device_in}
use Rattle.wb_devices.specs.declared.devices.Devices.{Devices}
use Rattle.wb_port.specs.Hands.{ReadLed, WriteLed, DidReadInto, DidWriteFrom, begins_at}
use Rattle.wb_port.specs.Requests.{first_at, IsWithin, WrittenAt, WrittenAtEach}
use Rattle.wb_port.specs.declared.moving.ReadStage.{ReadStage}
use Rattle.wb_port.specs.declared.moving.WriteStage.{WriteStage}
use Rattle.wb_port.proofs.Routes.{first_at-more, gives_more, written_more}

pub others-stay : {D : Type 0} (device : Dev) (old : Devices D) → OthersStay device old old
others-stay Metadata old = (refl, refl)
others-stay Cache old = (refl, refl)
others-stay Origin old = (refl, refl)

pub others-again : {D : Type 0} (device : Dev) (a b c : Devices D) → OthersStay device a b → OthersStay device b c → OthersStay device a c
others-again Metadata a b c h k = (k.0 ∙ h.0, k.1 ∙ h.1)
others-again Cache a b c h k = (k.0 ∙ h.0, k.1 ∙ h.1)
others-again Origin a b c h k = (k.0 ∙ h.0, k.1 ∙ h.1)

-- so many more are within a device of this size, where the step behind the first of them was
further_in : (size size' base m j at : ℕ) → size ≡ size' → at ≡ base + m → at + j ≤ size → base + (m + j) ≤ size'
further_in size size' base m j at same here inside = omega (arith, same, here, inside)

none_in : (at size : ℕ) → 1 ≤ 0 → at + 0 ≤ size
none_in at size some = omega (arith, some)

pub none_within : {D : Type 0} (size : D → ℕ) (block_sectors first : ℕ) (place : Option CBlock) (devices : Devices D) → IsWithin size block_sectors first 0 place devices
none_within size block_sectors first place devices = λ some. none_in (first_at block_sectors place first) (size (device_in (device_at place) devices)) some

module _ {D : Type 0} (tells : Type 0) (size : D → ℕ) (contents : D → List History) (faults : D → ℕ) (part : BlockRange) (place : Option CBlock) (first : ℕ) where
  abbrev pub device : Devices D → D
  device devices = device_in (device_at place) devices

  abbrev pub base : ℕ
  base = first_at part.block_sectors place first

  -- ---- reads

  -- So many sectors were read to the slice.
  pub record ReadSoFar (pass : PassState) (old : Devices D) (room : ℕ) (m : ℕ) (s : ReadStage D) : Type 0 where
    pub pass_is : s.hand.now.pass ≡ pass
    pub moved : s.moved ≡ m
    pub many : length s.out.now ≡ room
    pub others : OthersStay (device_at place) old s.hand.now.devices
    pub sized : size (device s.hand.now.devices) ≡ size (device old)
    pub inside : tells → IsWithin size part.block_sectors first m place old
    pub given : tells → GivesEach (contents (device old)) base (take m s.out.now)
    pub same : tells → contents (device s.hand.now.devices) ≡ contents (device old)
    pub no_fault : tells → faults (device s.hand.now.devices) ≡ faults (device old)

  read_by : (e : Extent) (s t : ReadStage D) → ReadLed tells size contents faults s (read_step part place e) Done t
      → (at : ℕ) × (at ≡ first_at part.block_sectors place e.first) × DidReadInto tells size contents faults (device_at place) (record { first = at; count = e.count }) Done s.hand.now.devices s.out.now s.moved t.hand.now.devices t.out.now t.moved × (t.hand.now.pass ≡ s.hand.now.pass)
  read_by = read_at place
    where
      read_at : (p : Option CBlock) (e : Extent) (s t : ReadStage D) → ReadLed tells size contents faults s (read_step part p e) Done t
          → (at : ℕ) × (at ≡ first_at part.block_sectors p e.first) × DidReadInto tells size contents faults (device_at p) (record { first = at; count = e.count }) Done s.hand.now.devices s.out.now s.moved t.hand.now.devices t.out.now t.moved × (t.hand.now.pass ≡ s.hand.now.pass)
      read_at None e s t h = (e.first, refl, h.into, h.by_pass)
      read_at (Some c) e s t h = (c.0 * part.block_sectors + e.first % part.block_sectors, refl, h.into, h.by_pass)

  pub read_more : (pass : PassState) (old : Devices D) (room count : ℕ) → count ≤ room → first % part.block_sectors + count ≤ part.block_sectors
      → (m j : ℕ) (s t : ReadStage D) → 1 ≤ j → m + j ≤ count → ReadSoFar pass old room m s → ReadLed tells size contents faults s (read_step part place (record { first = first + m; count = j })) Done t → ReadSoFar pass old room (m + j) t
  read_more pass old room count fits inside m j s t some more known led =
      let by = read_by (record { first = first + m; count = j }) s t led in
      let did = by.2 in
      let here : by.0 ≡ base + m = by.1 ∙ first_at-more part.block_sectors place first m (omega (arith, inside, more, some)) in
      let was : length s.out.now ≡ room = known.many in
      let now : length t.out.now ≡ room = did.many ∙ was in
      let on : t.moved ≡ m + j = did.further_on ∙ further_by s.moved m j (length s.out.now) room count known.moved was fits more in
      let before : take m t.out.now ≡ take m s.out.now = subst (λ (n : ℕ). take n t.out.now ≡ take n s.out.now) known.moved did.before in record {
        pass_is = by.3 ∙ known.pass_is;
        moved = on;
        many = now;
        others = others-again (device_at place) old s.hand.now.devices t.hand.now.devices known.others did.others;
        sized = did.sized ∙ known.sized;
        inside = λ told. λ any. further_in (size (device s.hand.now.devices)) (size (device old)) base m j by.0 known.sized here (did.did told).0.0;
        given = λ told.
            let d = did.did told in
            let old_is : contents (device s.hand.now.devices) ≡ contents (device old) = known.same told in
            let front : GivesEach (contents (device old)) base (take m t.out.now) = subst (GivesEach (contents (device old)) base) (sym before) (known.given told) in
            let raw : GivesEach (contents (device s.hand.now.devices)) by.0 (take j (drop s.moved t.out.now)) = d.1 in
            let behind : GivesEach (contents (device old)) (base + m) (take j (drop m t.out.now)) = subst (λ (h : List History). GivesEach h (base + m) (take j (drop m t.out.now))) old_is (subst (λ (n : ℕ). GivesEach (contents (device s.hand.now.devices)) n (take j (drop m t.out.now))) here (subst (λ (n : ℕ). GivesEach (contents (device s.hand.now.devices)) by.0 (take j (drop n t.out.now))) known.moved raw)) in
            gives_more (contents (device old)) base m j t.out.now (omega (arith, now, fits, more)) front behind;
        same = λ told. (did.did told).2 ∙ known.same told;
        no_fault = λ told. (did.did told).3 ∙ known.no_fault told;
      }
    where
      further_by : (moved m j many room count : ℕ) → moved ≡ m → many ≡ room → count ≤ room → m + j ≤ count → moved + min j (many - moved) ≡ m + j
      further_by moved m j many room count a b c d = omega (arith, a, b, c, d)

-- ---- writes

module _ {D : Type 0} (tells : Type 0) (size : D → ℕ) (contents : D → List History) (faults : D → ℕ) (part : BlockRange) (first : ℕ) where
  abbrev at : Option CBlock → Devices D → D
  at place devices = device_in (device_at place) devices

  -- So many sectors of the slice were written at a place.
  pub record WrittenThere (from : List Content) (place : Option CBlock) (m : ℕ) (old new : Devices D) : Type 0 where
    pub sized : size (at place new) ≡ size (at place old)
    pub inside : tells → IsWithin size part.block_sectors first m place old
    pub written : tells → contents (at place new) ≡ written_each (contents (at place old)) (first_at part.block_sectors place first) (take m from)
    pub no_fault : tells → faults (at place new) ≡ faults (at place old)

  -- none yet
  pub none_there : (from : List Content) (place : Option CBlock) (old new : Devices D) → new ≡ old → WrittenThere from place 0 old new
  none_there from place old new same = record { sized = ap (λ (ds : Devices D). size (at place ds)) same; inside = λ told. none_within size part.block_sectors first place old; written = λ told. ap (λ (ds : Devices D). contents (at place ds)) same; no_fault = λ told. ap (λ (ds : Devices D). faults (at place ds)) same }

  -- where a device stays, so does what was written to it
  stays_there : (from : List Content) (place : Option CBlock) (m : ℕ) (old new new' : Devices D) → at place new' ≡ at place new → WrittenThere from place m old new → WrittenThere from place m old new'
  stays_there from place m old new new' same known = record { sized = ap size same ∙ known.sized; inside = known.inside; written = λ told. ap contents same ∙ known.written told; no_fault = λ told. ap faults same ∙ known.no_fault told }

  -- all of them
  pub all_there : (from : List Content) (place : Option CBlock) (count : ℕ) (old new : Devices D) → length from ≡ count → OthersStay (device_at place) old new → WrittenThere from place count old new → WrittenAt tells size contents faults part.block_sectors first from place old new
  all_there from place count old new fits others known = record {
    others = others;
    sized = known.sized;
    inside = λ told. subst (λ (n : ℕ). IsWithin size part.block_sectors first n place old) (sym fits) (known.inside told);
    written = λ told. known.written told ∙ ap (λ (cs : List Content). written_each (contents (at place old)) (first_at part.block_sectors place first) cs) (take_all count from (omega (arith, fits)));
    no_fault = known.no_fault;
  }

  write_by : (place : Option CBlock) (e : Extent) (s t : WriteStage D) → WriteLed tells size contents faults s (write_step part place e) Done t
      → (from : ℕ) × (from ≡ first_at part.block_sectors place e.first)
      × DidWriteFrom tells size contents faults (device_at place) (record { first = from; count = e.count }) Done s.from.now s.hand.now.devices (begins_at s.hand.now.mode (device_at place) e.count s.moved) t.hand.now.devices t.moved × (t.hand.now.pass ≡ s.hand.now.pass)
  write_by None e s t h = (e.first, refl, h.from, h.by_pass)
  write_by (Some c) e s t h = (c.0 * part.block_sectors + e.first % part.block_sectors, refl, h.from, h.by_pass)

  -- A step that writes so many sectors more at a place.
  record WroteMore (from : List Content) (place : Option CBlock) (m j : ℕ) (s t : WriteStage D) : Type 0 where
    pass_is : t.hand.now.pass ≡ s.hand.now.pass
    on : t.moved ≡ m + j
    others : OthersStay (device_at place) s.hand.now.devices t.hand.now.devices
    there : (old : Devices D) → WrittenThere from place m old s.hand.now.devices → WrittenThere from place (m + j) old t.hand.now.devices

  module _ (from : List Content) (count : ℕ) (fits : count ≤ length from) (inside : first % part.block_sectors + count ≤ part.block_sectors) where
    wrote_more : (place : Option CBlock) (m j : ℕ) (s t : WriteStage D) → 1 ≤ j → m + j ≤ count → s.from.now ≡ from → begins_at s.hand.now.mode (device_at place) j s.moved ≡ m
        → WriteLed tells size contents faults s (write_step part place (record { first = first + m; count = j })) Done t → WroteMore from place m j s t
    wrote_more place m j s t some more slice begins led =
        let by = write_by place (record { first = first + m; count = j }) s t led in
        let did = by.2 in
        let begin : ℕ = begins_at s.hand.now.mode (device_at place) j s.moved in
        let base : ℕ = first_at part.block_sectors place first in
        let here : by.0 ≡ base + m = by.1 ∙ first_at-more part.block_sectors place first m (omega (arith, inside, more, some)) in
        let many : length s.from.now ≡ length from = ap length slice in record {
          pass_is = by.3;
          on = did.further_on ∙ further_by begin m j (length s.from.now) (length from) count begins many fits more;
          others = did.others;
          there = λ old known. record {
            sized = did.sized ∙ known.sized;
            inside = λ told. λ any. further_in (size (at place s.hand.now.devices)) (size (at place old)) base m j by.0 known.sized here (did.did told).0.0;
            written = λ told.
                let d = did.did told in
                let raw : contents (at place t.hand.now.devices) ≡ written_each (contents (at place s.hand.now.devices)) by.0 (take j (drop begin s.from.now)) = d.1 in
                let there : written_each (contents (at place s.hand.now.devices)) by.0 (take j (drop begin s.from.now)) ≡ written_each (written_each (contents (at place old)) base (take m from)) (base + m) (take j (drop m from)) =
                rw (known.written told, here, begins, slice) refl in
                raw ∙ (there ∙ written_more (contents (at place old)) base m j from (omega (arith, fits, more)));
            no_fault = λ told. (did.did told).2 ∙ known.no_fault told;
          };
        }
      where
        further_by : (begin m j many room count : ℕ) → begin ≡ m → many ≡ room → count ≤ room → m + j ≤ count → begin + min j (many - begin) ≡ m + j
        further_by begin m j many room count a b c d = omega (arith, a, b, c, d)

    -- ---- at one place

    -- So many sectors were written from the slice.
    pub record WrittenSoFar (pass : PassState) (mode : Mode) (place : Option CBlock) (old : Devices D) (m : ℕ) (s : WriteStage D) : Type 0 where
      pub pass_is : s.hand.now.pass ≡ pass
      pub mode_is : s.hand.now.mode ≡ mode
      pub moved : s.moved ≡ m
      pub slice : s.from.now ≡ from
      pub others : OthersStay (device_at place) old s.hand.now.devices
      pub there : WrittenThere from place m old s.hand.now.devices

    -- what is written there is nothing that was written elsewhere just before
    abbrev pub IsFirst : Mode → Option CBlock → Type 0
    IsFirst mode place = (count moved : ℕ) → begins_at mode (device_at place) count moved ≡ moved

    pub write_more : (pass : PassState) (mode : Mode) (place : Option CBlock) (old : Devices D) → IsFirst mode place → (m j : ℕ) (s t : WriteStage D) → 1 ≤ j → m + j ≤ count
        → WrittenSoFar pass mode place old m s → WriteLed tells size contents faults s (write_step part place (record { first = first + m; count = j })) Done t → WrittenSoFar pass mode place old (m + j) t
    write_more pass mode place old is_first m j s t some more known led =
        let wrote = wrote_more place m j s t some more known.slice (ap (λ (x : Mode). begins_at x (device_at place) j s.moved) known.mode_is ∙ (is_first j s.moved ∙ known.moved)) led in record {
          pass_is = wrote.pass_is ∙ known.pass_is;
          mode_is = led.same_mode ∙ known.mode_is;
          moved = wrote.on;
          slice = ap (λ f. f.now) led.same_slice ∙ known.slice;
          others = others-again (device_at place) old s.hand.now.devices t.hand.now.devices known.others wrote.others;
          there = wrote.there old known.there;
        }

    -- ---- on the origin, and then in the cache

    -- So many sectors were written on the origin, and so many in the cache.
    pub record ThroughSoFar (pass : PassState) (c : CBlock) (old : Devices D) (m n : ℕ) (s : WriteStage D) : Type 0 where
      pub pass_is : s.hand.now.pass ≡ pass
      pub mode_is : s.hand.now.mode ≡ Writethrough
      pub moved : s.moved ≡ m
      pub slice : s.from.now ≡ from
      pub metadata : s.hand.now.devices.metadata ≡ old.metadata
      pub home : WrittenThere from None m old s.hand.now.devices
      pub cached : WrittenThere from (Some c) n old s.hand.now.devices

    home_more : (pass : PassState) (c : CBlock) (old : Devices D) (m j : ℕ) (s t : WriteStage D) → 1 ≤ j → m + j ≤ count
        → ThroughSoFar pass c old m m s → WriteLed tells size contents faults s (write_step part None (record { first = first + m; count = j })) Done t → ThroughSoFar pass c old (m + j) m t
    home_more pass c old m j s t some more known led =
        let wrote = wrote_more None m j s t some more known.slice (ap (λ (x : Mode). begins_at x Origin j s.moved) known.mode_is ∙ known.moved) led in record {
          pass_is = wrote.pass_is ∙ known.pass_is;
          mode_is = led.same_mode ∙ known.mode_is;
          moved = wrote.on;
          slice = ap (λ f. f.now) led.same_slice ∙ known.slice;
          metadata = wrote.others.0 ∙ known.metadata;
          home = wrote.there old known.home;
          cached = stays_there from (Some c) m old s.hand.now.devices t.hand.now.devices wrote.others.1 known.cached;
        }

    mirror_more : (pass : PassState) (c : CBlock) (old : Devices D) (m j : ℕ) (s t : WriteStage D) → 1 ≤ j → m + j ≤ count
        → ThroughSoFar pass c old (m + j) m s → WriteLed tells size contents faults s (write_step part (Some c) (record { first = first + m; count = j })) Done t → ThroughSoFar pass c old (m + j) (m + j) t
    mirror_more pass c old m j s t some more known led =
        let wrote = wrote_more (Some c) m j s t some more known.slice (ap (λ (x : Mode). begins_at x Cache j s.moved) known.mode_is ∙ back s.moved m j known.moved) led in record {
          pass_is = wrote.pass_is ∙ known.pass_is;
          mode_is = led.same_mode ∙ known.mode_is;
          moved = wrote.on;
          slice = ap (λ f. f.now) led.same_slice ∙ known.slice;
          metadata = wrote.others.0 ∙ known.metadata;
          home = stays_there from None (m + j) old s.hand.now.devices t.hand.now.devices wrote.others.1 known.home;
          cached = wrote.there old known.cached;
        }
      where
        back : (moved m j : ℕ) → moved ≡ m + j → moved - j ≡ m
        back moved m j e = omega (arith, e)

    pub through_more : (pass : PassState) (c : CBlock) (old : Devices D) (m j : ℕ) (s mid t : WriteStage D) → 1 ≤ j → m + j ≤ count → ThroughSoFar pass c old m m s
        → WriteLed tells size contents faults s (write_step part None (record { first = first + m; count = j })) Done mid → WriteLed tells size contents faults mid (write_step part (Some c) (record { first = first + m; count = j })) Done t
        → ThroughSoFar pass c old (m + j) (m + j) t
    through_more pass c old m j s mid t some more known home cached = mirror_more pass c old m j mid t some more (home_more pass c old m j s mid some more known home) cached

    pub through_each : (pass : PassState) (c : CBlock) (old : Devices D) (s : WriteStage D) → length from ≡ count → ThroughSoFar pass c old count count s → WrittenAtEach tells size contents faults part.block_sectors first from (None ∷ Some c ∷ []) old s.hand.now.devices
    through_each pass c old s all known =
        let new : Devices D = s.hand.now.devices in
        let mid : Devices D = record old { origin = new.origin } in (
          mid,
          all_there from None count old mid all (refl, refl) (record { sized = known.home.sized; inside = known.home.inside; written = known.home.written; no_fault = known.home.no_fault }),
          (new, all_there from (Some c) count mid new all (known.metadata, refl) (record { sized = known.cached.sized; inside = known.cached.inside; written = known.cached.written; no_fault = known.cached.no_fault }), refl),
        )
