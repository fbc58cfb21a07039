-- The clerk's notes against the contents machine: its histories are the machine's, what it takes as finished the
-- machine does too, and so its floors.
use Rattle.std.proofs.Common.{◌≡◌, ◌≤◌, ◌⊎◌, ◌+◌, ◌∙◌, sym, ap, inl, inr, ℕ, Bool, true, false, List, [], ◌∷◌, None, refl, arith, length, length-append, max}
use Rattle.wb_disk.specs.Device.{Content, History, added}
use Rattle.wb_contents.specs.Volume.{Volume, changed_at}
use Rattle.wb_contents.proofs.Sectors.{here_is, elsewhere_is, by_sector}
use Rattle.wb_link.specs.Tables.{Job, Writing, Writing_through, Flushing, Suspending, Finished, Want, Write_all, End, Got}
use Rattle.wb_link.specs.World.{Shared, Held, Nothing, Owns, AbstractActor, held_after}
use Rattle.wb_link.specs.Clerk.{Entry, entry, added_each, entered_each, histories_after, entered_after, abstract_raised, finished_after, abstract_floors_after}
use Rattle.wb_link.proofs.Acts.{Grows}
use Rattle.wb_link.proofs.Link.{Owes, Ready, FlushesRight}
use Rattle.wb_link.proofs.Actors.{owns_or, disowned}

-- the machine has finished it, or its block is still owned
abbrev pub Entered : Held → Volume → Entry → Type 0
Entered held d e = (e.position ≤ d.finished e.block e.offset) ⊎ ((held ≡ Owns e.block) × (e.position ≤ length (d.histories e.block e.offset).later))

abbrev pub AllEntered : Held → Volume → List Entry → Type 0
AllEntered held d [] = Unit {0}
AllEntered held d (e ∷ es) = Entered held d e × AllEntered held d es

abbrev pub AllBelow : (ℕ → ℕ → ℕ) → List Entry → Type 0
AllBelow f [] = Unit {0}
AllBelow f (e ∷ es) = (e.position ≤ f e.block e.offset) × AllBelow f es

-- who holds nothing has all finished
pub all_below : (d e : Volume) (es : List Entry) → Grows d e → AllEntered Nothing d es → AllBelow e.finished es
all_below d e [] g i = tt
all_below d e (x ∷ es) g i = (elim i.0 [ inl l ↦ (let p = g.finished x.block x.offset in omega arith) | inr h ↦ (let bad = h.0 in absurd (cc)) ], all_below d e es g i.1)

raised_below : (es : List Entry) (f g : ℕ → ℕ → ℕ) → ((b o : ℕ) → f b o ≤ g b o) → AllBelow g es → (b o : ℕ) → abstract_raised es f b o ≤ g b o
raised_below [] f g l i b o = l b o
raised_below (x ∷ es) f g l i b o = raised_below es (changed_at f x.block x.offset (max (f x.block x.offset) x.position)) g
    (by_sector (λ b' o'. changed_at f x.block x.offset (max (f x.block x.offset) x.position) b' o' ≤ g b' o') x.block x.offset
    (rw (here_is f x.block x.offset (max (f x.block x.offset) x.position)) (let p = l x.block x.offset in omega (arith, i.0)))
    (λ b' o' n. rw (elsewhere_is f x.block x.offset b' o' (max (f x.block x.offset) x.position) n) (l b' o')))
    i.1 b o

pub finished_ok : (job : Job) (w : Want) (es : List Entry) (f g : ℕ → ℕ → ℕ) → ((b o : ℕ) → f b o ≤ g b o) → (w ≡ End Finished → AllBelow g es) → (b o : ℕ) → finished_after job w es f b o ≤ g b o
finished_ok (Writing past block os c) (End Finished) es f g l i b o = raised_below es f g l (i refl) b o
finished_ok (Writing_through block os c) (End Finished) es f g l i b o = raised_below es f g l (i refl) b o
finished_ok job w es f g l i b o = l b o

-- a task whose answer raises the floors
abbrev pub flushes : Job → Bool
flushes (Flushing order) = true
flushes Suspending = true
flushes job = false

pub floors_ok : (a : ℕ) (job : Job) (w : Want) (asked floors : ℕ → ℕ → ℕ) (d e : Volume) → ((b o : ℕ) → floors b o ≤ e.floor b o) → (flushes job ≡ true → (b o : ℕ) → asked b o ≤ d.then_finished a b o) → FlushesRight a job w d e → (b o : ℕ) → abstract_floors_after job w asked floors b o ≤ e.floor b o
floors_ok a (Flushing order) (End Finished) asked floors d e l k r b o = let p = l b o in let q = k refl b o in let h = r b o in omega arith
floors_ok a Suspending (End Finished) asked floors d e l k r b o = let p = l b o in let q = k refl b o in let h = r b o in omega arith
floors_ok a job w asked floors d e l k r b o = l b o

-- What was entered stays so, over a step of the actor itself and over one of another.
pub entered_on : (held : Held) (d e : Volume) (es : List Entry) → Grows d e → AllEntered held d es → AllEntered held e es
entered_on held d e [] g i = tt
entered_on held d e (x ∷ es) g i = (
  elim i.0 [
    | inl l ↦ inl (let p = g.finished x.block x.offset in omega arith)
    | inr h ↦ inr (h.0, let p = g.histories x.block x.offset in let q = h.1 in omega arith)
  ],
  entered_on held d e es g i.1,
)

-- a block that is given back has all its writes finished
pub entered_own : (x : AbstractActor) (s t : Shared) (d e : Volume) (job : Job) (w : Want) (got : Got) (es : List Entry) → Grows d e → Ready w x s → Owes job w t e → AllEntered x.held d es → AllEntered (held_after x.held w got) e es
entered_own x s t d e job w got [] g r o i = tt
entered_own x s t d e job w got (y ∷ es) g r o i = (
  elim i.0 [
    | inl l ↦ inl (let p = g.finished y.block y.offset in omega arith)
    | inr h ↦ elim (owns_or (held_after x.held w got) y.block) [
      | inl still ↦ inr (still, let p = g.histories y.block y.offset in let q = h.1 in omega arith)
      | inr n ↦ inl (let rest = disowned x s t e job w got y.block r h.0 n o in let same = rest.done y.offset in let p = g.histories y.block y.offset in let q = h.1 in omega arith)
    ]
  ],
  entered_own x s t d e job w got es g r o i.1,
)

-- histories to which an extent's sectors are added are no shorter then
added_more : (g : ℕ → ℕ → History) (b : ℕ) (os : List ℕ) (c : Content) (b' o' : ℕ) → length (g b' o').later ≤ length (added_each g b os c b' o').later
added_more g b [] c b' o' = omega arith
added_more g b (o ∷ os) c b' o' = let more = added_more (changed_at g b o (added (g b o) c)) b os c b' o' in
    let one : length (g b' o').later ≤ length (changed_at g b o (added (g b o) c) b' o').later = by_sector (λ i j. length (g i j).later ≤ length (changed_at g b o (added (g b o) c) i j).later) b o
    (rw (here_is g b o (added (g b o) c), length-append (g b o).later (c ∷ [])) (omega arith)) (λ i j n. rw (elsewhere_is g b o i j (added (g b o) c) n) (omega arith)) b' o' in omega (arith, more, one)

-- and new entries are of a block that is owned
new_entries : (g : ℕ → ℕ → History) (b : ℕ) (os : List ℕ) (c : Content) (held : Held) (e : Volume) (es : List Entry) → e.histories ≡ added_each g b os c → held ≡ Owns b → AllEntered held e es → AllEntered held e (entered_each g b os c es)
new_entries g b [] c held e es is own i = i
new_entries g b (o ∷ os) c held e es is own i = new_entries (changed_at g b o (added (g b o) c)) b os c held e (entry g b o ∷ es) is own (
  inr (
    own,
    rw is (let more = added_more (changed_at g b o (added (g b o) c)) b os c b o in
        let here : length (changed_at g b o (added (g b o) c) b o).later ≡ length (g b o).later + 1 = ap (λ (h : History). length h.later) (here_is g b o (added (g b o) c)) ∙ length-append (g b o).later (c ∷ []) in omega (arith, more, here)),
  ),
  i,
)

pub entered_ok : (x : AbstractActor) (s t : Shared) (d e : Volume) (job : Job) (w : Want) (got : Got) (histories : ℕ → ℕ → History) (es : List Entry) → histories ≡ d.histories → e.histories ≡ histories_after d.histories job w → Grows d e → Ready w x s → Owes job w t e → AllEntered x.held d es →
    AllEntered (held_after x.held w got) e (entered_after histories job w es)
entered_ok x s t d e (Writing past block all c) (Write_all location b os) got histories es same is g r p i = new_entries histories b os c x.held e es (is ∙ ap (λ h. added_each h b os c) (sym same)) r (entered_own x s t d e (Writing past block all c) (Write_all location b os) got es g r p i)
entered_ok x s t d e (Writing_through block all c) (Write_all None b os) got histories es same is g r p i = new_entries histories b os c x.held e es (is ∙ ap (λ h. added_each h b os c) (sym same)) r (entered_own x s t d e (Writing_through block all c) (Write_all None b os) got es g r p i)
entered_ok x s t d e job w got histories es same is g r p i = entered_own x s t d e job w got es g r p i
