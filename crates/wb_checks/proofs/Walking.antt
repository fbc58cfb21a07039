-- One node more on the way to an entry.
use Rattle.std.proofs.Common.{◌≡◌, ◌^◌, ◌/◌, ◌%◌, sym, subst, suc, ℕ, List, Some}
use Rattle.std.specs.Prelude.{slice_index}
use Rattle.wb_types.specs.declared.entry.Entry.{Entry}
use Rattle.wb_disk.specs.Device.{Content}
use Rattle.wb_format.specs.declared.root.Root.{Root}
use Rattle.wb_format.specs.declared.node.Node.{Node}
use Rattle.wb_format.specs.NodeWords.{SpellsEntry}
use Rattle.wb_checks.specs.Samples.{IsNodeAt, Leads, LeafHas, NodeNames}

-- a leaf, with the block's word
pub leads_at_leaf : (root : Root) (sectors : List Content) (block place level : ℕ) (entry : Entry) (node : Node) → level ≡ 1
    → IsNodeAt root sectors level (block / 32 ^ level) place node → SpellsEntry (slice_index node.words (block / 32 ^ 0 % 32)) (Some entry)
    → Leads root sectors block entry level place
leads_at_leaf root sectors block place level entry node one there spelled =
    subst (λ (l : ℕ). IsNodeAt root sectors l (block / 32 ^ l) place node → Leads root sectors block entry l place) (sym one) (λ at. LeafHas place node at spelled) there

-- a node above, whose word names where the way goes on
pub leads_on : (root : Root) (sectors : List Content) (block place level below : ℕ) (entry : Entry) (node : Node) → level ≡ suc below
    → IsNodeAt root sectors level (block / 32 ^ level) place node → Leads root sectors block entry below (slice_index node.words (block / 32 ^ below % 32))
    → Leads root sectors block entry level place
leads_on root sectors block place level below entry node next there leads =
    subst (λ (l : ℕ). IsNodeAt root sectors l (block / 32 ^ l) place node → Leads root sectors block entry l place) (sym next) (λ at. NodeNames below place node at leads) there
