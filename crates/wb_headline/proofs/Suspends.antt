-- What a suspend has seen of the seals, and which blocks the state that its commit stores takes as clean.
use Rattle.std.proofs.Common.{◌≡◌, ◌≢◌, ◌∙◌, ◌<◌, ◌+◌, ◌++◌, ◌==◌, ◌⊎◌, inl, inr, cond, if◌then◌else◌, ℕ, zero, suc, Bool, true, false, List, [], ◌∷◌, Option, Some, None, refl, sym, ap, subst, arith, length, slice_get, slice_set, replicate, Contains}
use Rattle.std.proofs.lemmas.Bool.{cases_eq}
use Rattle.std.proofs.lemmas.List.{length-set, length-replicate}
use Rattle.std.proofs.lemmas.List.Elements.{Contains-append_left}
use Rattle.wb_types.proofs.Lists.{Contains-first, Contains-behind}
use Rattle.wb_types.specs.declared.number.OBlock.{OBlock}
use Rattle.wb_types.specs.declared.number.CBlock.{CBlock}
use Rattle.wb_types.specs.declared.entry.Entry.{Entry}
use Rattle.wb_contents.proofs.Lists.{set_there, set_other, there_is}
use Rattle.wb_words.specs.SharedWords.{Words, word_at, place_in, dirty_in}
use Rattle.wb_words.specs.declared.word.Word.TheVariants.{Seal as SealWord}
use Rattle.wb_words.specs.declared.step.CellStep.TheVariants.{Look, SetSuspended}
use Rattle.wb_meta.specs.Representing.{Stored}
use Rattle.wb_desk.specs.Marks.{marked_entries}
use Rattle.wb_tasks.specs.Plan.{Plan, node_writes, root_steps, begun_steps, seal_looks}
use Rattle.wb_tasks.specs.declared.step.DeskStep.TheVariants.{BeginCommit}
use Rattle.wb_tasks.specs.declared.step.Want.{Want}
use Rattle.wb_tasks.specs.declared.step.Want.TheVariants.{Cell, Desk}
use Rattle.wb_stage.specs.Seen.{seen_at, seen_with}
use Rattle.wb_promise.specs.Headline.{place_of, cached_from}
use Rattle.wb_promise.specs.Sealed.{number_of}
use Rattle.wb_promise.specs.declared.job.Job.{Job}
use Rattle.wb_promise.specs.declared.job.Job.TheVariants.{Suspend}
use Rattle.wb_refines.specs.Commits.{commit_task}
use Rattle.wb_refines.specs.Models.{WordsAgree}
use Rattle.wb_link.specs.World.{Shared}
use Rattle.wb_runs.proofs.Lists.{first_or}
use Rattle.wb_simulation.specs.Opened.{is_clean_in}
use Rattle.wb_simulation.specs.Sites.{StateTakesClean}
use Rattle.wb_simulation.specs.Worlds.{clean_by}
use Rattle.wb_simulation.proofs.Opened.{found_at}

-- ---- what it has seen

-- its commit is still to begin
abbrev pub BeginsLater : List Want → Type 0
BeginsLater [] = ⊥
BeginsLater (Desk (BeginCommit most) ∷ later) = Unit {0}
BeginsLater (next ∷ later) = BeginsLater later

-- the bit of each block that these entries have is that of its seal
abbrev pub AllSeen : Words → List (Option Entry) → List Bool → Type 0
AllSeen words entries seen = (block : OBlock) (c : ℕ) → place_of entries block.0 ≡ Some c → slice_get seen c ≡ Some (dirty_in (word_at words.seals block))

-- As long as its commit is to begin, each block that these entries have has a bit, which is that of its seal if it is not to be looked at still.
abbrev pub Saw : Words → List (Option Entry) → List Bool → List Want → Type 0
Saw words entries seen steps = BeginsLater steps → (block : OBlock) (c : ℕ) → place_of entries block.0 ≡ Some c →
    (c < length seen) × (Contains steps (Cell (Look (SealWord block))) ⊎ (slice_get seen c ≡ Some (dirty_in (word_at words.seals block))))

abbrev pub SawJob : Words → List (Option Entry) → List Bool → Job → List Want → Type 0
SawJob words entries seen Suspend steps = Saw words entries seen steps
SawJob words entries seen job steps = Unit {0}

abbrev pub SawTask : Words → List (Option Entry) → List Bool → Option (Job × Plan) → Type 0
SawTask words entries seen None = Unit {0}
SawTask words entries seen (Some doing) = SawJob words entries seen doing.0 doing.1.steps

-- it goes on by a step that is no look at a seal
pub saw_on : (words words' : Words) (old new : List (Option Entry)) (seen : List Bool) (next : Want) (later : List Want) → ((block : OBlock) → next ≢ Cell (Look (SealWord block))) → words'.seals ≡ words.seals → ((b : ℕ) → place_of new b ≡ place_of old b) → Saw words old seen (next ∷ later) → Saw words' new seen later
saw_on words words' old new seen next later none seals places saw begins block c at =
    let was = saw (begins_before next later begins) block c (sym (places block.0) ∙ at) in (
      was.0,
      elim was.1 [
        | inl looks ↦ first_or next (Cell (Look (SealWord block))) later _ looks (λ same. absurd (none block (sym same))) (λ still. inl still)
        | inr is ↦ inr (is ∙ ap (λ (s : List ℕ). Some (dirty_in (word_at s block))) (sym seals))
      ],
    )
  where
    begins_before : (next : Want) (later : List Want) → BeginsLater later → BeginsLater (next ∷ later)
    begins_before (Desk (BeginCommit most)) later b = tt
    begins_before next later b = b

-- it has looked at a seal, which tells where its block stands
pub saw_seal : (words : Words) (entries : List (Option Entry)) (seen : List Bool) (block : OBlock) (later : List Want) → number_of (place_in (word_at words.seals block)) ≡ place_of entries block.0 → Saw words entries seen (Cell (Look (SealWord block)) ∷ later) → Saw words entries (seen_with (word_at words.seals block) seen) later
saw_seal words entries seen block later told saw begins other c at = by (place_in (word_at words.seals block)) told (saw begins other c at)
  where
    seal : ℕ
    seal = word_at words.seals block

    Now : List Bool → Type 0
    Now bits = (c < length bits) × (Contains later (Cell (Look (SealWord other))) ⊎ (slice_get bits c ≡ Some (dirty_in (word_at words.seals other))))

    Was : Type 0
    Was = (c < length seen) × (Contains (Cell (Look (SealWord block)) ∷ later) (Cell (Look (SealWord other))) ⊎ (slice_get seen c ≡ Some (dirty_in (word_at words.seals other))))

    -- the same block, if both stand in this cache block
    one_block : place_of entries block.0 ≡ Some c → block ≡ other
    one_block here =
        let f = found_at entries block.0 0 c here in
        let g = found_at entries other.0 0 c at in
        let same : f.0 ≡ g.0 = (let p = f.2 in let q = g.2 in omega (arith, p, q)) in
        let both : Some f.1 ≡ Some g.1 = sym f.4 ∙ ap (λ (i : ℕ). Rattle.std.proofs.Common.slice_index_or entries i None) same ∙ g.4 in
        let entry : f.1 ≡ g.1 = cc in
        (λ i. record { 0 = (sym f.5 ∙ ap (λ (e : Entry). e.origin.0) entry ∙ g.5) i })

    by : (place : Option CBlock) → number_of place ≡ place_of entries block.0 → Was → Now (seen_at place (dirty_in seal) seen)
    by None n was = (
      was.0,
      elim was.1 [
        | inl looks ↦ first_or (Cell (Look (SealWord block))) (Cell (Look (SealWord other))) later _ looks
            (λ same. absurd (let is : other ≡ block = cc in let bad : None ≡ Some c = n ∙ ap (λ (b : OBlock). place_of entries b.0) (sym is) ∙ at in cc)) (λ still. inl still)
        | inr is ↦ inr is
      ],
    )
    by (Some d) n was = (
      subst (λ (k : ℕ). c < k) (sym (length-set seen d.0 (dirty_in seal))) was.0,
      elim (cases_eq c d.0) [
        | inl same ↦ (
            let mine : block ≡ other = one_block (sym n ∙ ap (λ (k : ℕ). Some k) (sym same)) in
            let old = there_is seen c was.0 in
            inr (ap (λ (k : ℕ). slice_get (slice_set seen k (dirty_in seal)) c) (sym same) ∙ set_there seen c old.0 (dirty_in seal) old.1 ∙ ap (λ (b : OBlock). Some (dirty_in (word_at words.seals b))) mine))
        | inr away ↦ elim was.1 [
          | inl looks ↦ first_or (Cell (Look (SealWord block))) (Cell (Look (SealWord other))) later _ looks
              (λ same. absurd (
              let is : other ≡ block = cc in
              let both : Some d.0 ≡ Some c = n ∙ ap (λ (b : OBlock). place_of entries b.0) (sym is) ∙ at in
              let bad : d.0 ≡ c = cc in away (sym bad))) (λ still. inl still)
          | inr is ↦ inr (set_other seen d.0 c (dirty_in seal) away ∙ is)
        ]
      ],
    )

-- it starts with a look at the seal of each block that is mapped
pub saw_first : (words : Words) (entries : List (Option Entry)) (caches most : ℕ) (blocks : List OBlock) (first : Want) → ((block : OBlock) (c : ℕ) → place_of entries block.0 ≡ Some c → (c < caches) × Contains blocks block) →
    Saw words entries (replicate caches false) (first ∷ (seal_looks blocks ++ Desk (BeginCommit most) ∷ []))
saw_first words entries caches most blocks first all begins block c at =
    let has = all block c at in (
      subst (λ (k : ℕ). c < k) (sym (length-replicate caches false)) has.0,
      inl (Contains-behind first (seal_looks blocks ++ Desk (BeginCommit most) ∷ []) (Cell (Look (SealWord block))) (Contains-append_left (seal_looks blocks) (Desk (BeginCommit most) ∷ []) (Cell (Look (SealWord block))) (looks_at blocks has.1))),
    )
  where
    looks_at : (blocks : List OBlock) → Contains blocks block → Contains (seal_looks blocks) (Cell (Look (SealWord block)))
    looks_at [] has = absurd (omega (arith, has.1))
    looks_at (b ∷ bs) has = first_or b block bs _ has (λ same. subst (λ (v : OBlock). Contains (seal_looks (b ∷ bs)) (Cell (Look (SealWord v)))) (sym same) (Contains-first (Cell (Look (SealWord b))) (seal_looks bs))) (λ later. Contains-behind (Cell (Look (SealWord b))) (seal_looks bs) (Cell (Look (SealWord block))) (looks_at bs later))

-- where nothing is left but to begin its commit it has seen all
pub saw_all : (words : Words) (entries : List (Option Entry)) (seen : List Bool) (most : ℕ) (later : List Want) → later ≡ [] → Saw words entries seen (Desk (BeginCommit most) ∷ later) → AllSeen words entries seen
saw_all words entries seen most later none saw block c at = elim (saw tt block c at).1 [
  | inl looks ↦ first_or (Desk (BeginCommit most)) (Cell (Look (SealWord block))) later _ looks (λ same. absurd (cc)) (λ still. absurd (let l = subst (λ (ws : List Want). Contains ws (Cell (Look (SealWord block)))) none still in omega (arith, l.1)))
  | inr is ↦ is
]

-- once it has begun, its commit begins no more
pub begun_once : (clean : Bool) (blocks : List OBlock) (most nodes : ℕ) → BeginsLater (begun_steps (commit_task clean blocks most) nodes) → ⊥
begun_once true blocks most nodes b = then_on nodes 0 b
  where
    then_on : (count first : ℕ) → BeginsLater ((node_writes count first ++ root_steps) ++ Cell SetSuspended ∷ []) → ⊥
    then_on zero first b = b
    then_on (suc count) first b = then_on count (first + 1) b
begun_once false blocks most nodes b = alone nodes 0 b
  where
    alone : (count first : ℕ) → BeginsLater (node_writes count first ++ root_steps) → ⊥
    alone zero first b = b
    alone (suc count) first b = alone count (first + 1) b

-- ---- what its commit stores

-- entries that were marked are of the same blocks
pub marked_places : (hint : ℕ → ℕ) (seen : List Bool) (entries : List (Option Entry)) (n block : ℕ) → cached_from block n (marked_entries hint seen entries) ≡ cached_from block n entries
marked_places hint seen [] n block = refl
marked_places hint [] (None ∷ es) n block = marked_places hint [] es (suc n) block
marked_places hint [] (Some e ∷ es) n block = ap (λ o. if e.origin.0 == block then Some n else o) (marked_places hint [] es (suc n) block)
marked_places hint (bit ∷ seen) (None ∷ es) n block = marked_places hint seen es (suc n) block
marked_places hint (bit ∷ seen) (Some e ∷ es) n block = ap (λ o. if e.origin.0 == block then Some n else o) (marked_places hint seen es (suc n) block)

-- and a block's entry is clean as its bit was seen
marked_clean : (hint : ℕ → ℕ) (seen : List Bool) (entries : List (Option Entry)) (n block k : ℕ) (dirty : Bool) → cached_from block n entries ≡ Some (n + k) → slice_get seen k ≡ Some dirty → is_clean_in (marked_entries hint seen entries) block ≡ cond dirty false true
marked_clean hint (b ∷ seen) (None ∷ es) n block zero dirty at bit = absurd (let f = found_at es block (suc n) (n + 0) at in let is = f.2 in omega (arith, is))
marked_clean hint (b ∷ seen) (None ∷ es) n block (suc k) dirty at bit = marked_clean hint seen es (suc n) block k dirty (at ∙ (let same : n + suc k ≡ suc n + k = omega arith in ap (λ (i : ℕ). Some i) same)) bit
marked_clean hint (b ∷ seen) (Some e ∷ es) n block k dirty at bit = by (e.origin.0 == block) k at bit (λ j. marked_clean hint seen es (suc n) block j dirty)
  where
    by : (t : Bool) (k : ℕ) → (if t then Some n else cached_from block (suc n) es) ≡ Some (n + k) → slice_get (b ∷ seen) k ≡ Some dirty → ((j : ℕ) → cached_from block (suc n) es ≡ Some (suc n + j) → slice_get seen j ≡ Some dirty → is_clean_in (marked_entries hint seen es) block ≡ cond dirty false true) → (if t then cond b false true else is_clean_in (marked_entries hint seen es) block) ≡ cond dirty false true
    by true zero at bit later = (let both : Some b ≡ Some dirty = bit in let same : b ≡ dirty = cc in ap (λ (v : Bool). cond v false true) same)
    by true (suc k) at bit later = absurd (let both : Some n ≡ Some (n + suc k) = at in let bad : n ≡ n + suc k = cc in omega (arith, bad))
    by false zero at bit later = absurd (let f = found_at es block (suc n) (n + 0) at in let is = f.2 in omega (arith, is))
    by false (suc k) at bit later = later k (at ∙ (let same : n + suc k ≡ suc n + k = omega arith in ap (λ (i : ℕ). Some i) same)) bit
marked_clean hint seen entries n block k dirty at bit = absurd (cc)

-- A state that is marked clean, and whose entries have the bits of all seals, takes those blocks as clean whose seals are.
pub takes_seen : (hint : ℕ → ℕ) (words : Words) (s : Shared) (old : List (Option Entry)) (seen : List Bool) (state : Stored) → WordsAgree words s → ((block : OBlock) → number_of (place_in (word_at words.seals block)) ≡ place_of old block.0) → AllSeen words old seen → state.root.clean ≡ true → state.found.entries ≡ marked_entries hint seen old → StateTakesClean state (clean_by true s)
takes_seen hint words s old seen state agree tells all marked entries block c at =
    let b : OBlock = record { 0 = block } in
    let there : place_of old block ≡ Some c = sym (marked_places hint seen old 0 block) ∙ ap (λ (es : List (Option Entry)). cached_from block 0 es) (sym entries) ∙ at in
    let bit = all b c there in
    let stored : is_clean_in state.found.entries block ≡ cond (dirty_in (word_at words.seals b)) false true = ap (λ (es : List (Option Entry)). is_clean_in es block) entries ∙ marked_clean hint seen old 0 block c (dirty_in (word_at words.seals b)) (there ∙ (let same : c ≡ 0 + c = omega arith in ap (λ (i : ℕ). Some i) same)) bit in
    ap (λ (d : Bool). cond d false true) (dirty_there (place_in (word_at words.seals b)) refl (tells b ∙ there)) ∙ sym stored ∙ sym (ap (λ (m : Bool). cond m (is_clean_in state.found.entries block) false) marked)
  where
    dirty_there : (place : Option CBlock) → place_in (word_at words.seals (record { 0 = block })) ≡ place → number_of place ≡ Some c → (s.seals block).dirty ≡ dirty_in (word_at words.seals (record { 0 = block }))
    dirty_there None e n = absurd (cc)
    dirty_there (Some d) e n = (agree.seals (record { 0 = block })).dirty d e

-- one that is not takes none so
pub takes_none : (state : Stored) → state.root.clean ≡ false → StateTakesClean state (λ block. false)
takes_none state unmarked block c at = ap (λ (m : Bool). cond m (is_clean_in state.found.entries block) false) (sym unmarked)
