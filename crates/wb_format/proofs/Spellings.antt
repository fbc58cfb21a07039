-- A value has one spelling: its fields settle every byte.
use Rattle.std.proofs.Common.{◌≡◌, ◌≤◌, ◌+◌, ◌*◌, ℕ, zero, suc, List, sym, ◌∙◌, arith}
use Rattle.wb_format.specs.Bytes.{IsSector, number_at, SameBytes, HasWords}
use Rattle.wb_format.specs.Layout.{SpellsRoot, SpellsNode}
use Rattle.wb_format.specs.declared.root.Root.{Root}
use Rattle.wb_format.specs.declared.node.Node.{Node}
use Rattle.wb_format.proofs.Numbers.{number_at-fixes, same-beside, same_sectors, zero-same}

-- two sectors with the same number in a field
field : (s t : List ℕ) (offset width number : ℕ) → IsSector s → IsSector t → number_at s offset width ≡ number → number_at t offset width ≡ number → SameBytes s t offset (offset + width)
field s t offset width number hs ht p q = number_at-fixes s t offset width hs ht (p ∙ sym q)

pub one_root_spelling : (s t : List ℕ) (root : Root) → SpellsRoot s root → SpellsRoot t root → s ≡ t
one_root_spelling s t root p q =
    let f = λ (offset width number : ℕ) (a : number_at s offset width ≡ number) (b : number_at t offset width ≡ number). field s t offset width number p.bytes q.bytes a b in
    let b = same-beside s t 0 in
    let h1 = b 8 16 (f 0 8 _ p.magic q.magic) (f 8 8 _ p.generation q.generation) in
    let h2 = b 16 20 h1 (f 16 4 _ p.version q.version) in
    let h3 = b 20 24 h2 (f 20 4 _ p.flags q.flags) in
    let h4 = b 24 28 h3 (f 24 4 _ p.geometry.block q.geometry.block) in
    let h5 = b 28 32 h4 (f 28 4 _ p.geometry.cache_blocks q.geometry.cache_blocks) in
    let h6 = b 32 36 h5 (f 32 4 _ p.geometry.origin_blocks q.geometry.origin_blocks) in
    let h7 = b 36 40 h6 (f 36 4 _ p.geometry.meta_sectors q.geometry.meta_sectors) in
    let h8 = b 40 44 h7 (f 40 4 _ p.top q.top) in
    let h9 = b 44 48 h8 (f 44 4 _ p.top_dirty q.top_dirty) in
    let h10 = b 48 512 h9 (zero-same s t 48 512 p.bytes q.bytes (omega arith) p.rest q.rest) in
    same_sectors s t p.bytes q.bytes h10

-- the words that come first
words_same : (s t words : List ℕ) → IsSector s → IsSector t → HasWords s words → HasWords t words → (n : ℕ) → n ≤ 32 → SameBytes s t 32 (32 + 8 * n)
words_same s t words hs ht p q zero h k low high = absurd (omega arith)
words_same s t words hs ht p q (suc n) h k low high =
    let before = words_same s t words hs ht p q n (omega arith) in
    let here = field s t (32 + 8 * n) 8 _ hs ht (p.each n (omega arith)) (q.each n (omega arith)) in
    same-beside s t 32 (32 + 8 * n) (32 + 8 * n + 8) before here k low (omega arith)

pub one_node_spelling : (s t : List ℕ) (node : Node) → SpellsNode s node → SpellsNode t node → s ≡ t
one_node_spelling s t node p q =
    let f = λ (offset width number : ℕ) (a : number_at s offset width ≡ number) (b : number_at t offset width ≡ number). field s t offset width number p.bytes q.bytes a b in
    let b = same-beside s t 0 in
    let h1 = b 8 16 (f 0 8 _ p.magic q.magic) (f 8 8 _ p.generation q.generation) in
    let h2 = b 16 20 h1 (f 16 4 _ p.level q.level) in
    let h3 = b 20 24 h2 (f 20 4 _ p.index q.index) in
    let h4 = b 24 32 h3 (zero-same s t 24 32 p.bytes q.bytes (omega arith) p.gap q.gap) in
    let h5 = b 32 288 h4 (words_same s t node.words p.bytes q.bytes p.words q.words 32 (omega arith)) in
    let h6 = b 288 512 h5 (zero-same s t 288 512 p.bytes q.bytes (omega arith) p.rest q.rest) in
    same_sectors s t p.bytes q.bytes h6
