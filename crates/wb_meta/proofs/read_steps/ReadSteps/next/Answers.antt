use Rattle.std.proofs.Common.{◌≡◌, ◌≤◌, ◌<◌, ◌⊎◌, ◌∙◌, ◌-◌, ◌+◌, ℕ, List, length, map, refl, sym, ap, arith, subst, inr}
use Rattle.std.proofs.lemmas.Result.{IfErr-weaker, IfOk-weaker}
use Rattle.std.specs.Prelude.{Option, Some, None, Result, Ok, Err, IfOk, IfErr, slice_get}
use Rattle.wb_types.specs.declared.version.Version.{Version}
use Rattle.wb_types.specs.declared.refusal.Refusal.{Refusal}
use Rattle.wb_disk.specs.Device.{Content, History, newest}
use Rattle.wb_format.specs.declared.root.Root.{Root}
use Rattle.wb_tree.specs.Reading.{Nodes}
use Rattle.wb_meta.specs.Slots.{IsInSlot}
use Rattle.wb_meta.specs.Representing.{ReadsThere}
use Rattle.wb_tree.specs.Loading.{IsFresh}
use Rattle.wb_types.specs.declared.number.Place.{Place}
use Rattle.wb_tree.specs.declared.placed.PlacedNode.{PlacedNode}
use Rattle.wb_meta.specs.declared.read_steps.ReadSteps.{ReadSteps}
use Rattle.wb_meta.specs.States.{IsRefusedBy, IsOfReading, CountsFault, FailsIf}
use Rattle.wb_meta.specs.Reads.{AgreeThere, AreStepsOn, HasRead, ReadingGoesOn, StopsBy, IsDone, IsImageOn, coming_sector, number_of_place, sectors_read, steps_left}
use Rattle.wb_meta.proofs.Loaded.{loaded_none, loaded_more, loaded_refused, memory_refused, fails_kind, fails_cause, fails_way, wanted_node, IfErr-handed}
use Rattle.wb_meta.proofs.Counting.{length-apart, tree_begun, tree_pushed, fewer_left, length_pushed}
use Rattle.wb_meta.specs.States.{places_of}
use Rattle.std.proofs.lemmas.List.{length-map}
use Rattle.wb_disk.specs.Extents.{Reading, MayLand}
use Rattle.wb_meta.proofs.read_steps.ReadSteps.next.Goals as goal

-- as many sectors as the device has
whole_size : (sectors : List Content) (device : List History) (size : ℕ) → length sectors ≡ length device → length device ≡ size → length sectors ≡ size
whole_size sectors device size same whole = same ∙ whole

-- what a step comes to, of all sectors that agree with the device
goes : {A : Type 0} (self : ReadSteps A) (device : List History) (r : Result (ReadSteps A) Refusal) → ((sectors : List Content) → AgreeThere (coming_sector self) device sectors → HasRead sectors self → IfOk r (HasRead sectors)) → IfOk r (ReadingGoesOn self device)
goes self device (Ok steps) h = h
goes self device (Err refusal) h = tt

stops : {A : Type 0} (self : ReadSteps A) (device : List History) (r : Result (ReadSteps A) Refusal) → ((sectors : List Content) → AgreeThere (coming_sector self) device sectors → HasRead sectors self → IfErr r (IsRefusedBy sectors)) → IfErr r (StopsBy self device)
stops self device (Ok steps) h = tt
stops self device (Err refusal) h = h

-- what was found in a slot of the device stands there in sectors that agree with it
slot_found : (sectors others : List Content) (slot : ℕ) (o : Option Root) → slice_get sectors slot ≡ slice_get others slot → IsInSlot others slot o → IsInSlot sectors slot o
slot_found sectors others slot None same none = λ sector root there. none sector root (sym same ∙ there)
slot_found sectors others slot (Some root) same has = record { sector = has.sector; there = same ∙ has.there; valid = has.valid }

node_found : (version : Version) (sectors others : List Content) (nodes : Nodes) (at : ℕ) → slice_get sectors at ≡ slice_get others at → ReadsThere version others nodes at → ReadsThere version sectors nodes at
node_found version sectors others nodes at same there = record { sector = there.sector; there = same ∙ there.there; reads = there.reads }

-- a reading has not read more nodes than its device has sectors
pub overflow_add-nodes : goal.overflow_add-nodes
overflow_add-nodes g c =
    let Q : ReadSteps _ → Type 0 = λ s. AreStepsOn (g.D.Disk.size c.args.disk.now) s in
    let on = subst Q c.in-RootFound.is c.requires in
    let reached = c.in-RootFound.loader.found.reached in
    let most = length-apart (g.D.Disk.size c.args.disk.now) (places_of reached) on.0.used in
    let same : length (places_of reached) ≡ length reached = length-map reached (λ (node : PlacedNode). node.place) in
    let to = c.in-RootFound.root.geometry.within.meta_to in
    omega (arith, most, same, on.0.size, on.2, to)

pub go_on-requires-in-Some : goal.go_on-requires-in-Some
go_on-requires-in-Some g c =
    let Q : ReadSteps _ → Type 0 = λ s. AreStepsOn (g.D.Disk.size c.args.disk.now) s in
    let on = subst Q c.in-RootFound.is c.requires in
    let wanted = wanted_node c.in-RootFound.loader.wanted c.in-Some.field-0 (sym c.wanted.ensures.place ∙ c.in-Some.is) in
    let more = ap (λ (ns : List PlacedNode). length ns) (c.in_ok-tell-in-Some.ensures.reached wanted.node wanted.some) in
    omega (arith, on.2, more, length_pushed c.in-RootFound.loader.found.reached wanted.node)

pub returns-in_err-tell-in-Some-clause-refused : goal.returns-in_err-tell-in-Some-clause-refused
returns-in_err-tell-in-Some-clause-refused g c tells = stops c.args.self (g.D.Disk.contents c.args.disk.now) c.from_residual-in_err-tell-in-Some.result (λ sectors agrees has.
    let device = g.D.Disk.contents c.args.disk.now in
    let wanted = wanted_node c.in-RootFound.loader.wanted c.in-Some.field-0 (sym c.wanted.ensures.place ∙ c.in-Some.is) in
    let Q : ReadSteps _ → Type 0 = λ s. AreStepsOn (g.D.Disk.size c.args.disk.now) s in
    let on = (subst Q c.in-RootFound.is c.requires).0 in
    let R : ReadSteps _ → Type 0 = λ s. HasRead sectors s in
    let loaded = subst R c.in-RootFound.is has in
    let S : ℕ → Type 0 = λ at. ReadsThere c.in-RootFound.root.version (map newest device) (λ _. c.in_ok-node-in-Some.node) at in
    let comes = ap (λ s. coming_sector s) c.in-RootFound.is ∙ (ap number_of_place (sym c.wanted.ensures.place ∙ c.in-Some.is) ∙ ap (λ (p : Place). Some p.0) (sym wanted.there)) in
    let here = node_found c.in-RootFound.root.version sectors (map newest device) (λ _. c.in_ok-node-in-Some.node) wanted.node.place.0 (agrees.here wanted.node.place.0 comes) (subst S (c.from.ensures ∙ sym (ap (λ (p : Place). p.0) wanted.there)) (c.in_ok-node-in-Some.ensures.found tells)) in
    IfErr-handed c.from_residual-in_err-tell-in-Some.result c.in_err-tell-in-Some.field-0.0 (IsRefusedBy sectors) c.from_residual-in_err-tell-in-Some.ensures.1
    (loaded_refused sectors c.in-RootFound.root c.in-RootFound.loader wanted.node c.in_ok-node-in-Some.node c.in_err-tell-in-Some.field-0.0 (on.size ∙ sym (whole_size sectors device _ agrees.size (g.met.D.Disk.whole c.args.disk.now tells))) loaded here
    (λ nodes. c.in_err-tell-in-Some.ensures.err wanted.node nodes wanted.some)))

pub returns-in_err-root-in-FirstSlotRead-clause-refused : goal.returns-in_err-root-in-FirstSlotRead-clause-refused
returns-in_err-root-in-FirstSlotRead-clause-refused g c tells = stops c.args.self (g.D.Disk.contents c.args.disk.now) c.from_residual-in_err-root-in-FirstSlotRead.result (λ sectors agrees has.
    let device = g.D.Disk.contents c.args.disk.now in
    let R : ReadSteps _ → Type 0 = λ s. HasRead sectors s in
    let size = whole_size sectors device _ agrees.size (g.met.D.Disk.whole c.args.disk.now tells) ∙ sym (c.sectors.ensures ∙ c.in_ok-second-in-FirstSlotRead.ensures.size) in
    IfErr-handed c.from_residual-in_err-root-in-FirstSlotRead.result c.in_err-root-in-FirstSlotRead.field-0.0 (IsRefusedBy sectors) c.from_residual-in_err-root-in-FirstSlotRead.ensures.1
    (c.in_err-root-in-FirstSlotRead.ensures.refused sectors size (subst R c.in-FirstSlotRead.is has)
    (slot_found sectors (map newest device) 1 c.in_ok-second-in-FirstSlotRead.second (agrees.here 1 (ap (λ s. coming_sector s) c.in-FirstSlotRead.is)) (c.in_ok-second-in-FirstSlotRead.ensures.found tells))))

pub returns-in_err-loader-in-FirstSlotRead-clause-refused : goal.returns-in_err-loader-in-FirstSlotRead-clause-refused
returns-in_err-loader-in-FirstSlotRead-clause-refused g c tells = stops c.args.self (g.D.Disk.contents c.args.disk.now) c.from_residual-in_err-loader-in-FirstSlotRead.result (λ sectors agrees has.
    let device = g.D.Disk.contents c.args.disk.now in
    let R : ReadSteps _ → Type 0 = λ s. HasRead sectors s in
    let newer = c.in_ok-root-in-FirstSlotRead.ensures.newest sectors (subst R c.in-FirstSlotRead.is has) (slot_found sectors (map newest device) 1 c.in_ok-second-in-FirstSlotRead.second (agrees.here 1 (ap (λ s. coming_sector s) c.in-FirstSlotRead.is)) (c.in_ok-second-in-FirstSlotRead.ensures.found tells)) in
    let size = c.in_ok-root-in-FirstSlotRead.ensures.size ∙ (c.sectors.ensures ∙ c.in_ok-second-in-FirstSlotRead.ensures.size) ∙ sym (whole_size sectors device _ agrees.size (g.met.D.Disk.whole c.args.disk.now tells)) in
    IfErr-handed c.from_residual-in_err-loader-in-FirstSlotRead.result c.in_err-loader-in-FirstSlotRead.field-0.0 (IsRefusedBy sectors) c.from_residual-in_err-loader-in-FirstSlotRead.ensures.1
    (memory_refused sectors c.in_ok-root-in-FirstSlotRead.root c.in_err-loader-in-FirstSlotRead.field-0.0 newer size c.in_err-loader-in-FirstSlotRead.ensures.refused))

pub returns-in_ok-loader-in-FirstSlotRead-clause-refused : goal.returns-in_ok-loader-in-FirstSlotRead-clause-refused
returns-in_ok-loader-in-FirstSlotRead-clause-refused g c tells = stops c.args.self (g.D.Disk.contents c.args.disk.now) c.go_on.result (λ sectors agrees has.
    let device = g.D.Disk.contents c.args.disk.now in
    let R : ReadSteps _ → Type 0 = λ s. HasRead sectors s in
    let newer = c.in_ok-root-in-FirstSlotRead.ensures.newest sectors (subst R c.in-FirstSlotRead.is has) (slot_found sectors (map newest device) 1 c.in_ok-second-in-FirstSlotRead.second (agrees.here 1 (ap (λ s. coming_sector s) c.in-FirstSlotRead.is)) (c.in_ok-second-in-FirstSlotRead.ensures.found tells)) in
    let size = c.in_ok-root-in-FirstSlotRead.ensures.size ∙ (c.sectors.ensures ∙ c.in_ok-second-in-FirstSlotRead.ensures.size) ∙ sym (whole_size sectors device _ agrees.size (g.met.D.Disk.whole c.args.disk.now tells)) in
    IfErr-weaker c.go_on.result _ _ (λ refusal memory. memory_refused sectors c.in_ok-root-in-FirstSlotRead.root refusal newer size memory) c.go_on.ensures.refused)

pub returns-in_ok-tell-in-Some-clause-refused : goal.returns-in_ok-tell-in-Some-clause-refused
returns-in_ok-tell-in-Some-clause-refused g c tells = stops c.args.self (g.D.Disk.contents c.args.disk.now) c.go_on-in-Some.result (λ sectors agrees has.
    let device = g.D.Disk.contents c.args.disk.now in
    let R : ReadSteps _ → Type 0 = λ s. HasRead sectors s in
    let loaded = subst R c.in-RootFound.is has in
    let Q : ReadSteps _ → Type 0 = λ s. AreStepsOn (g.D.Disk.size c.args.disk.now) s in
    let on = (subst Q c.in-RootFound.is c.requires).0 in
    let size = on.size ∙ sym (whole_size sectors device _ agrees.size (g.met.D.Disk.whole c.args.disk.now tells)) in
    IfErr-weaker c.go_on-in-Some.result _ _ (λ refusal memory. memory_refused sectors c.in-RootFound.root refusal loaded.newest size memory) c.go_on-in-Some.ensures.refused)

pub returns-in_err-tell-in-Some-clause-kinds : goal.returns-in_err-tell-in-Some-clause-kinds
returns-in_err-tell-in-Some-clause-kinds g c =
    let wanted = wanted_node c.in-RootFound.loader.wanted c.in-Some.field-0 (sym c.wanted.ensures.place ∙ c.in-Some.is) in
    IfErr-handed c.from_residual-in_err-tell-in-Some.result c.in_err-tell-in-Some.field-0.0 IsOfReading c.from_residual-in_err-tell-in-Some.ensures.1
    (fails_kind c.in_err-tell-in-Some.field-0.0 _ (c.in_err-tell-in-Some.ensures.err wanted.node (λ _. c.in_ok-node-in-Some.node) wanted.some refl))

pub returns-in_err-tell-in-Some-clause-cause : goal.returns-in_err-tell-in-Some-clause-cause
returns-in_err-tell-in-Some-clause-cause g c tells =
    let wanted = wanted_node c.in-RootFound.loader.wanted c.in-Some.field-0 (sym c.wanted.ensures.place ∙ c.in-Some.is) in
    IfErr-handed c.from_residual-in_err-tell-in-Some.result c.in_err-tell-in-Some.field-0.0 (λ refusal. CountsFault refusal (g.D.Disk.faults c.args.disk.now) (g.D.Disk.faults c.get_node.new.disk)) c.from_residual-in_err-tell-in-Some.ensures.1
    (fails_cause c.in_err-tell-in-Some.field-0.0 _ _ _ (c.in_err-tell-in-Some.ensures.err wanted.node (λ _. c.in_ok-node-in-Some.node) wanted.some refl) (c.in_ok-node-in-Some.ensures.no_fault tells))

pub returns-in_err-tell-in-Some-clause-how : goal.returns-in_err-tell-in-Some-clause-how
returns-in_err-tell-in-Some-clause-how g c tells =
    let wanted = wanted_node c.in-RootFound.loader.wanted c.in-Some.field-0 (sym c.wanted.ensures.place ∙ c.in-Some.is) in
    IfErr-handed c.from_residual-in_err-tell-in-Some.result c.in_err-tell-in-Some.field-0.0 (λ refusal. FailsIf refusal (MayLand (g.D.Disk.falters c.args.disk.now Reading))) c.from_residual-in_err-tell-in-Some.ensures.1
    (fails_way c.in_err-tell-in-Some.field-0.0 _ _ (c.in_err-tell-in-Some.ensures.err wanted.node (λ _. c.in_ok-node-in-Some.node) wanted.some refl))

pub returns-in_ok-loader-in-FirstSlotRead-clause-on : goal.returns-in_ok-loader-in-FirstSlotRead-clause-on
returns-in_ok-loader-in-FirstSlotRead-clause-on g c =
    c.go_on.ensures.on (g.D.Disk.size c.args.disk.now) (tree_begun (g.D.Disk.size c.args.disk.now) c.in_ok-root-in-FirstSlotRead.root c.in_ok-loader-in-FirstSlotRead.loader
    (c.in_ok-root-in-FirstSlotRead.ensures.size ∙ (c.sectors.ensures ∙ c.in_ok-second-in-FirstSlotRead.ensures.size)) c.in_ok-loader-in-FirstSlotRead.ensures.root c.in_ok-loader-in-FirstSlotRead.ensures.nothing c.in_ok-loader-in-FirstSlotRead.ensures.begun_mapping)

pub returns-in_ok-loader-in-FirstSlotRead-clause-left : goal.returns-in_ok-loader-in-FirstSlotRead-clause-left
returns-in_ok-loader-in-FirstSlotRead-clause-left g c =
    let sectors = g.D.Disk.size c.args.disk.now in
    let self : steps_left sectors c.args.self ≡ sectors + 1 = ap (λ s. steps_left sectors s) c.in-FirstSlotRead.is in
    let Fewer : ReadSteps _ → Type 0 = λ steps. steps_left sectors steps ≤ sectors - length c.in_ok-loader-in-FirstSlotRead.loader.found.reached in
    let Falls : ReadSteps _ → Type 0 = λ steps. IsDone c.args.self ⊎ (steps_left sectors steps < steps_left sectors c.args.self) in
    IfOk-weaker c.go_on.result Fewer Falls (λ steps fewer. inr (omega (arith, fewer, self))) (c.go_on.ensures.left sectors)

pub returns-in_ok-tell-in-Some-clause-on : goal.returns-in_ok-tell-in-Some-clause-on
returns-in_ok-tell-in-Some-clause-on g c =
    let sectors = g.D.Disk.size c.args.disk.now in
    let wanted = wanted_node c.in-RootFound.loader.wanted c.in-Some.field-0 (sym c.wanted.ensures.place ∙ c.in-Some.is) in
    let P : Place → Type 0 = λ place. IsFresh c.in-RootFound.loader.root c.in-RootFound.loader.found.reached place in
    let Q : ReadSteps _ → Type 0 = λ s. AreStepsOn sectors s in
    let on = (subst Q c.in-RootFound.is c.requires).0 in
    let told = c.in_ok-tell-in-Some.ensures in
    c.go_on-in-Some.ensures.on sectors (tree_pushed sectors c.in-RootFound.root c.in-RootFound.loader c.in_ok-tell-in-Some.field-0 wanted.node c.in_ok-node-in-Some.node on (subst P (sym wanted.there) c.in-Some.ensures.fresh) c.in_ok-node-in-Some.ensures.of_version
    told.root (told.reached wanted.node wanted.some) (λ nodes. told.mapping wanted.node nodes wanted.some))

pub returns-in_ok-tell-in-Some-clause-left : goal.returns-in_ok-tell-in-Some-clause-left
returns-in_ok-tell-in-Some-clause-left g c =
    let sectors = g.D.Disk.size c.args.disk.now in
    let wanted = wanted_node c.in-RootFound.loader.wanted c.in-Some.field-0 (sym c.wanted.ensures.place ∙ c.in-Some.is) in
    let P : Place → Type 0 = λ place. IsFresh c.in-RootFound.loader.root c.in-RootFound.loader.found.reached place in
    let Q : ReadSteps _ → Type 0 = λ s. AreStepsOn sectors s in
    let on = (subst Q c.in-RootFound.is c.requires).0 in
    let told = c.in_ok-tell-in-Some.ensures in
    let less = fewer_left sectors c.in-RootFound.root c.in-RootFound.loader c.in_ok-tell-in-Some.field-0 wanted.node on (subst P (sym wanted.there) c.in-Some.ensures.fresh) (told.reached wanted.node wanted.some) in
    let self : steps_left sectors c.args.self ≡ sectors - length c.in-RootFound.loader.found.reached = ap (λ s. steps_left sectors s) c.in-RootFound.is in
    IfOk-weaker c.go_on-in-Some.result _ _ (λ steps fewer. inr (omega (arith, fewer, less, self))) (c.go_on-in-Some.ensures.left sectors)

pub returns-in_ok-tell-in-Some-clause-one_more : goal.returns-in_ok-tell-in-Some-clause-one_more
returns-in_ok-tell-in-Some-clause-one_more g c =
    let wanted = wanted_node c.in-RootFound.loader.wanted c.in-Some.field-0 (sym c.wanted.ensures.place ∙ c.in-Some.is) in
    let more = ap (λ (ns : List PlacedNode). length ns) (c.in_ok-tell-in-Some.ensures.reached wanted.node wanted.some) in
    let self : sectors_read c.args.self ≡ 2 + length c.in-RootFound.loader.found.reached = ap (λ s. sectors_read s) c.in-RootFound.is in
    IfOk-weaker c.go_on-in-Some.result _ _ (λ steps count. inr (omega (arith, count, more, length_pushed c.in-RootFound.loader.found.reached wanted.node, self))) c.go_on-in-Some.ensures.count

pub returns-in_ok-loader-in-FirstSlotRead-clause-read : goal.returns-in_ok-loader-in-FirstSlotRead-clause-read
returns-in_ok-loader-in-FirstSlotRead-clause-read g c tells = goes c.args.self (g.D.Disk.contents c.args.disk.now) c.go_on.result (λ sectors agrees has.
    let device = g.D.Disk.contents c.args.disk.now in
    let R : ReadSteps _ → Type 0 = λ s. HasRead sectors s in
    let first = subst R c.in-FirstSlotRead.is has in
    let second = slot_found sectors (map newest device) 1 c.in_ok-second-in-FirstSlotRead.second (agrees.here 1 (ap (λ s. coming_sector s) c.in-FirstSlotRead.is)) (c.in_ok-second-in-FirstSlotRead.ensures.found tells) in
    let newer = c.in_ok-root-in-FirstSlotRead.ensures.newest sectors first second in
    let size = c.in_ok-root-in-FirstSlotRead.ensures.size ∙ (c.sectors.ensures ∙ c.in_ok-second-in-FirstSlotRead.ensures.size) in
    let told = c.in_ok-loader-in-FirstSlotRead.ensures in
    c.go_on.ensures.read sectors
    (tree_begun (length sectors) c.in_ok-root-in-FirstSlotRead.root c.in_ok-loader-in-FirstSlotRead.loader (size ∙ sym (whole_size sectors device _ agrees.size (g.met.D.Disk.whole c.args.disk.now tells))) told.root told.nothing told.begun_mapping)
    (loaded_none sectors c.in_ok-root-in-FirstSlotRead.root c.in_ok-loader-in-FirstSlotRead.loader newer told.nothing told.begun told.begun_mapping))

pub returns-in_ok-tell-in-Some-clause-read : goal.returns-in_ok-tell-in-Some-clause-read
returns-in_ok-tell-in-Some-clause-read g c tells = goes c.args.self (g.D.Disk.contents c.args.disk.now) c.go_on-in-Some.result (λ sectors agrees has.
    let device = g.D.Disk.contents c.args.disk.now in
    let wanted = wanted_node c.in-RootFound.loader.wanted c.in-Some.field-0 (sym c.wanted.ensures.place ∙ c.in-Some.is) in
    let Q : ReadSteps _ → Type 0 = λ s. AreStepsOn (g.D.Disk.size c.args.disk.now) s in
    let on = (subst Q c.in-RootFound.is c.requires).0 in
    let R : ReadSteps _ → Type 0 = λ s. HasRead sectors s in
    let loaded = subst R c.in-RootFound.is has in
    let S : ℕ → Type 0 = λ at. ReadsThere c.in-RootFound.root.version (map newest device) (λ _. c.in_ok-node-in-Some.node) at in
    let comes = ap (λ s. coming_sector s) c.in-RootFound.is ∙ (ap number_of_place (sym c.wanted.ensures.place ∙ c.in-Some.is) ∙ ap (λ (p : Place). Some p.0) (sym wanted.there)) in
    let here = node_found c.in-RootFound.root.version sectors (map newest device) (λ _. c.in_ok-node-in-Some.node) wanted.node.place.0 (agrees.here wanted.node.place.0 comes) (subst S (c.from.ensures ∙ sym (ap (λ (p : Place). p.0) wanted.there)) (c.in_ok-node-in-Some.ensures.found tells)) in
    let P : Place → Type 0 = λ place. IsFresh c.in-RootFound.loader.root c.in-RootFound.loader.found.reached place in
    let told = c.in_ok-tell-in-Some.ensures in
    let made = tree_pushed (g.D.Disk.size c.args.disk.now) c.in-RootFound.root c.in-RootFound.loader c.in_ok-tell-in-Some.field-0 wanted.node c.in_ok-node-in-Some.node on (subst P (sym wanted.there) c.in-Some.ensures.fresh) c.in_ok-node-in-Some.ensures.of_version
    told.root (told.reached wanted.node wanted.some) (λ nodes. told.mapping wanted.node nodes wanted.some) in
    let T : ℕ → Type 0 = λ n. IsImageOn n c.in-RootFound.root c.in_ok-tell-in-Some.field-0 in
    c.go_on-in-Some.ensures.read sectors
    (subst T (sym (whole_size sectors device _ agrees.size (g.met.D.Disk.whole c.args.disk.now tells))) made)
    (loaded_more sectors c.in-RootFound.root c.in-RootFound.loader c.in_ok-tell-in-Some.field-0 wanted.node c.in_ok-node-in-Some.node loaded here (told.reached wanted.node wanted.some) (λ nodes. told.goes_on wanted.node nodes wanted.some) (λ nodes. told.mapping wanted.node nodes wanted.some)))
