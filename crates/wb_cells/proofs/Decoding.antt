-- A word of the table is the word of its name.
use Rattle.std.proofs.Common.{◌≡◌, ℕ, zero, suc, ◌+◌, ◌*◌, ◌<◌, List, [], ◌∷◌, length, get_or, set, replicate, sym, refl, ap, ◌∙◌, arith}
use Rattle.wb_words.specs.declared.word.Kind.TheVariants.{ReadHit, ReadMiss, WriteHit, WriteMiss}
use Rattle.wb_words.specs.declared.word.Word.{Word as WordName}
use Rattle.wb_words.specs.declared.word.Word.TheVariants.{Cell as LockWord, Seal as SealWord, Number, Count as CountWord, Fail}
use Rattle.wb_words.specs.SharedWords.{fresh_words, value_of}
use Rattle.wb_words.specs.SharedWords.{IsWord, put}
use Rattle.wb_cells.specs.Flat.{index_of, column, pick_cell, pick_seal, pick_number, decode}
use Rattle.wb_words.proofs.Values.{word_at_is}

-- columns of three
module _ (pick : ℕ → ℕ → ℕ → ℕ) (j : ℕ) where
  pub column_set : ((c s n x : ℕ) (ws : List ℕ) → column pick (set (c ∷ s ∷ n ∷ ws) j x) ≡ x ∷ column pick ws)
      → (ws : List ℕ) (b x : ℕ) → b < length (column pick ws) → column pick (set ws (3 * b + j) x) ≡ set (column pick ws) b x
  column_set here [] b x h = absurd (omega arith)
  column_set here (c ∷ []) b x h = absurd (omega arith)
  column_set here (c ∷ s ∷ []) b x h = absurd (omega arith)
  column_set here (c ∷ s ∷ n ∷ ws) zero x h = let e : 3 * 0 + j ≡ j = omega arith in ap (λ (i : ℕ). column pick (set (c ∷ s ∷ n ∷ ws) i x)) e ∙ here c s n x ws
  column_set here (c ∷ s ∷ n ∷ ws) (suc b) x h = let e : 3 * suc b + j ≡ suc (suc (suc (3 * b + j))) = omega arith in
      ap (λ (i : ℕ). column pick (set (c ∷ s ∷ n ∷ ws) i x)) e ∙ ap (λ (l : List ℕ). pick c s n ∷ l) (column_set here ws b x (omega arith))

  pub column_else : ((c s n x : ℕ) (ws : List ℕ) → column pick (set (c ∷ s ∷ n ∷ ws) j x) ≡ pick c s n ∷ column pick ws)
      → (ws : List ℕ) (b x : ℕ) → b < length (column pick ws) → column pick (set ws (3 * b + j) x) ≡ column pick ws
  column_else here [] b x h = absurd (omega arith)
  column_else here (c ∷ []) b x h = absurd (omega arith)
  column_else here (c ∷ s ∷ []) b x h = absurd (omega arith)
  column_else here (c ∷ s ∷ n ∷ ws) zero x h = let e : 3 * 0 + j ≡ j = omega arith in ap (λ (i : ℕ). column pick (set (c ∷ s ∷ n ∷ ws) i x)) e ∙ here c s n x ws
  column_else here (c ∷ s ∷ n ∷ ws) (suc b) x h = let e : 3 * suc b + j ≡ suc (suc (suc (3 * b + j))) = omega arith in
      ap (λ (i : ℕ). column pick (set (c ∷ s ∷ n ∷ ws) i x)) e ∙ ap (λ (l : List ℕ). pick c s n ∷ l) (column_else here ws b x (omega arith))

  pub column_get : ((c s n : ℕ) (ws : List ℕ) → get_or (c ∷ s ∷ n ∷ ws) j 0 ≡ pick c s n)
      → (ws : List ℕ) (b : ℕ) → b < length (column pick ws) → get_or ws (3 * b + j) 0 ≡ get_or (column pick ws) b 0
  column_get here [] b h = absurd (omega arith)
  column_get here (c ∷ []) b h = absurd (omega arith)
  column_get here (c ∷ s ∷ []) b h = absurd (omega arith)
  column_get here (c ∷ s ∷ n ∷ ws) zero h = let e : 3 * 0 + j ≡ j = omega arith in ap (λ (i : ℕ). get_or (c ∷ s ∷ n ∷ ws) i 0) e ∙ here c s n ws
  column_get here (c ∷ s ∷ n ∷ ws) (suc b) h = let e : 3 * suc b + j ≡ suc (suc (suc (3 * b + j))) = omega arith in
      ap (λ (i : ℕ). get_or (c ∷ s ∷ n ∷ ws) i 0) e ∙ column_get here ws b (omega arith)

pub column_length : (pick : ℕ → ℕ → ℕ → ℕ) (n : ℕ) (ws : List ℕ) → length ws ≡ 3 * n → length (column pick ws) ≡ n
column_length pick n [] e = omega arith
column_length pick n (c ∷ []) e = absurd (omega arith)
column_length pick n (c ∷ s ∷ []) e = absurd (omega arith)
column_length pick zero (c ∷ s ∷ x ∷ ws) e = absurd (omega arith)
column_length pick (suc n) (c ∷ s ∷ x ∷ ws) e = let r = column_length pick n ws (omega arith) in omega arith

column_fresh : (pick : ℕ → ℕ → ℕ → ℕ) (n : ℕ) → pick 0 0 0 ≡ 0 → column pick (replicate (3 * n) 0) ≡ replicate n 0
column_fresh pick zero z = refl
column_fresh pick (suc n) z = let e : 3 * suc n ≡ suc (suc (suc (3 * n))) = omega arith in
    ap (λ (k : ℕ). column pick (replicate k 0)) e ∙ (λ i. z i ∷ column_fresh pick n z i)

pub decode_fresh : (n : ℕ) → decode (replicate (3 * n + 5) 0) ≡ fresh_words n
decode_fresh n = let e : 3 * n + 5 ≡ suc (suc (suc (suc (suc (3 * n))))) = omega arith in
    ap (λ (k : ℕ). decode (replicate k 0)) e ∙ (λ i. record (fresh_words n) { cells = column_fresh pick_cell n refl i; seals = column_fresh pick_seal n refl i; numbers = column_fresh pick_number n refl i })

module _ (n : ℕ) where
  inside : (pick : ℕ → ℕ → ℕ → ℕ) (b : ℕ) (ws : List ℕ) → suc (suc (suc (suc (suc (length ws))))) ≡ 3 * n + 5 → b < n → b < length (column pick ws)
  inside pick b ws e h = let l = column_length pick n ws (omega arith) in omega arith

  pub decode_get : (ws : List ℕ) (word : WordName) → length ws ≡ 3 * n + 5 → IsWord n word → get_or ws (index_of word) 0 ≡ value_of (decode ws) word
  decode_get [] word e h = absurd (omega arith)
  decode_get (x ∷ []) word e h = absurd (omega arith)
  decode_get (x ∷ y ∷ []) word e h = absurd (omega arith)
  decode_get (x ∷ y ∷ z ∷ []) word e h = absurd (omega arith)
  decode_get (x ∷ y ∷ z ∷ u ∷ []) word e h = absurd (omega arith)
  decode_get (x ∷ y ∷ z ∷ u ∷ v ∷ ws) (LockWord b) e h = let i : 3 * b.0 + 5 ≡ suc (suc (suc (suc (suc (3 * b.0 + 0))))) = omega arith in
      ap (λ (k : ℕ). get_or (x ∷ y ∷ z ∷ u ∷ v ∷ ws) k 0) i ∙ (column_get pick_cell 0 (λ _ _ _ _. refl) ws b.0 (inside pick_cell b.0 ws e h) ∙ sym (word_at_is (column pick_cell ws) b))
  decode_get (x ∷ y ∷ z ∷ u ∷ v ∷ ws) (SealWord b) e h = let i : 3 * b.0 + 6 ≡ suc (suc (suc (suc (suc (3 * b.0 + 1))))) = omega arith in
      ap (λ (k : ℕ). get_or (x ∷ y ∷ z ∷ u ∷ v ∷ ws) k 0) i ∙ (column_get pick_seal 1 (λ _ _ _ _. refl) ws b.0 (inside pick_seal b.0 ws e h) ∙ sym (word_at_is (column pick_seal ws) b))
  decode_get (x ∷ y ∷ z ∷ u ∷ v ∷ ws) (Number b) e h = let i : 3 * b.0 + 7 ≡ suc (suc (suc (suc (suc (3 * b.0 + 2))))) = omega arith in
      ap (λ (k : ℕ). get_or (x ∷ y ∷ z ∷ u ∷ v ∷ ws) k 0) i ∙ (column_get pick_number 2 (λ _ _ _ _. refl) ws b.0 (inside pick_number b.0 ws e h) ∙ sym (word_at_is (column pick_number ws) b))
  decode_get (x ∷ y ∷ z ∷ u ∷ v ∷ ws) (CountWord ReadHit) e h = refl
  decode_get (x ∷ y ∷ z ∷ u ∷ v ∷ ws) (CountWord ReadMiss) e h = refl
  decode_get (x ∷ y ∷ z ∷ u ∷ v ∷ ws) (CountWord WriteHit) e h = refl
  decode_get (x ∷ y ∷ z ∷ u ∷ v ∷ ws) (CountWord WriteMiss) e h = refl
  decode_get (x ∷ y ∷ z ∷ u ∷ v ∷ ws) Fail e h = refl

  pub decode_set : (ws : List ℕ) (word : WordName) (t : ℕ) → length ws ≡ 3 * n + 5 → IsWord n word → decode (set ws (index_of word) t) ≡ put (decode ws) word t
  decode_set [] word t e h = absurd (omega arith)
  decode_set (x ∷ []) word t e h = absurd (omega arith)
  decode_set (x ∷ y ∷ []) word t e h = absurd (omega arith)
  decode_set (x ∷ y ∷ z ∷ []) word t e h = absurd (omega arith)
  decode_set (x ∷ y ∷ z ∷ u ∷ []) word t e h = absurd (omega arith)
  decode_set (x ∷ y ∷ z ∷ u ∷ v ∷ ws) (LockWord b) t e h = let i : 3 * b.0 + 5 ≡ suc (suc (suc (suc (suc (3 * b.0 + 0))))) = omega arith in
      ap (λ (k : ℕ). decode (set (x ∷ y ∷ z ∷ u ∷ v ∷ ws) k t)) i ∙ (λ j. record (decode (x ∷ y ∷ z ∷ u ∷ v ∷ ws)) {
        cells = column_set pick_cell 0 (λ _ _ _ _ _. refl) ws b.0 t (inside pick_cell b.0 ws e h) j;
        seals = column_else pick_seal 0 (λ _ _ _ _ _. refl) ws b.0 t (inside pick_seal b.0 ws e h) j;
        numbers = column_else pick_number 0 (λ _ _ _ _ _. refl) ws b.0 t (inside pick_number b.0 ws e h) j;
      })
  decode_set (x ∷ y ∷ z ∷ u ∷ v ∷ ws) (SealWord b) t e h = let i : 3 * b.0 + 6 ≡ suc (suc (suc (suc (suc (3 * b.0 + 1))))) = omega arith in
      ap (λ (k : ℕ). decode (set (x ∷ y ∷ z ∷ u ∷ v ∷ ws) k t)) i ∙ (λ j. record (decode (x ∷ y ∷ z ∷ u ∷ v ∷ ws)) {
        cells = column_else pick_cell 1 (λ _ _ _ _ _. refl) ws b.0 t (inside pick_cell b.0 ws e h) j;
        seals = column_set pick_seal 1 (λ _ _ _ _ _. refl) ws b.0 t (inside pick_seal b.0 ws e h) j;
        numbers = column_else pick_number 1 (λ _ _ _ _ _. refl) ws b.0 t (inside pick_number b.0 ws e h) j;
      })
  decode_set (x ∷ y ∷ z ∷ u ∷ v ∷ ws) (Number b) t e h = let i : 3 * b.0 + 7 ≡ suc (suc (suc (suc (suc (3 * b.0 + 2))))) = omega arith in
      ap (λ (k : ℕ). decode (set (x ∷ y ∷ z ∷ u ∷ v ∷ ws) k t)) i ∙ (λ j. record (decode (x ∷ y ∷ z ∷ u ∷ v ∷ ws)) {
        cells = column_else pick_cell 2 (λ _ _ _ _ _. refl) ws b.0 t (inside pick_cell b.0 ws e h) j;
        seals = column_else pick_seal 2 (λ _ _ _ _ _. refl) ws b.0 t (inside pick_seal b.0 ws e h) j;
        numbers = column_set pick_number 2 (λ _ _ _ _ _. refl) ws b.0 t (inside pick_number b.0 ws e h) j;
      })
  decode_set (x ∷ y ∷ z ∷ u ∷ v ∷ ws) (CountWord ReadHit) t e h = refl
  decode_set (x ∷ y ∷ z ∷ u ∷ v ∷ ws) (CountWord ReadMiss) t e h = refl
  decode_set (x ∷ y ∷ z ∷ u ∷ v ∷ ws) (CountWord WriteHit) t e h = refl
  decode_set (x ∷ y ∷ z ∷ u ∷ v ∷ ws) (CountWord WriteMiss) t e h = refl
  decode_set (x ∷ y ∷ z ∷ u ∷ v ∷ ws) Fail t e h = refl
