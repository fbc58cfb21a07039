-- The nodes whose words are being read, when the lowest goes, or names a child.
use Rattle.std.proofs.Common.{◌≡◌, ◌∙◌, ap, List, [], ◌∷◌, ◌++◌, reverse}
use Rattle.std.proofs.lemmas.List.{reverse-append}
use Rattle.wb_format.specs.declared.root.Root.{Root}
use Rattle.wb_tree.specs.declared.frame.Frame.{Frame}
use Rattle.wb_tree.specs.Reading.{Found, Nodes, ◌then◌}
use Rattle.wb_tree.specs.Loading.{frame_rest, frames_rest}

-- the lowest node, and then the others
pub frames_rest-lowest : (root : Root) (nodes : Nodes) (items rest : List Frame) (frame : Frame) (found : Found) → items ≡ rest ++ frame ∷ []
    → frames_rest root nodes (reverse items) found ≡ (frame_rest root nodes frame found then frames_rest root nodes (reverse rest))
frames_rest-lowest root nodes items rest frame found e = ap (λ (xs : List Frame). frames_rest root nodes xs found) (ap (λ (xs : List Frame). reverse xs) e ∙ reverse-append rest (frame ∷ []))
