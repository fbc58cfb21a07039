-- An extent's step is acts on its sectors, one after the other: what is known before each of them, and after the last.
use Rattle.std.proofs.Common.{◌≡◌, ◌<◌, ◌++◌, ℕ, Bool, List, [], ◌∷◌, Option, sym, subst}
use Rattle.wb_disk.specs.Device.{Content, History}
use Rattle.wb_contents.specs.Volume.{Volume}
use Rattle.wb_contents.specs.Acts.{Act, volume_after as after_act, volume_after_all as after_acts}
use Rattle.wb_contents.specs.Conditions.{IsRunOfActs as IsActs}
use Rattle.wb_link.specs.Tables.{Want, Got, Script}
use Rattle.wb_link.specs.World.{Shared, AbstractActor, Within, actor_after, put_sector, put_where, if_landed}
use Rattle.wb_link.proofs.Link.{Agrees, Ready, Owes, Right, AllMine, Goes, each_act}

-- an actor does these acts, after which this is known
pub record Leads (size a : ℕ) (x : AbstractActor) (busy : Bool) (Then : Volume → Type 0) (d : Volume) (acts : List Act) : Type 0 where
  pub run : IsActs d acts
  pub mine : AllMine size a x busy acts
  pub ends : Then (after_acts d acts)

leads_both : (size a : ℕ) (x : AbstractActor) (busy : Bool) (Then : Volume → Type 0) (d : Volume) (xs ys : List Act) → Leads size a x busy (λ e. Leads size a x busy Then e ys) d xs → Leads size a x busy Then d (xs ++ ys)
leads_both size a x busy Then d [] ys k = k.ends
leads_both size a x busy Then d (y ∷ xs) ys k =
    let later = leads_both size a x busy Then (after_act d y) xs ys (record { run = k.run.1; mine = k.mine.1; ends = k.ends }) in
    record { run = (k.run.0, later.run); mine = (k.mine.0, later.mine); ends = later.ends }

-- Before each sector: the world is the machine, its histories are to be these once the others have come, and what else the task knows.
pub record Sweep (books : List ℕ → (ℕ → ℕ → History) → ℕ → ℕ → History) (histories : ℕ → ℕ → History) (Knows : List ℕ → Shared → Volume → Type 0) (left : List ℕ) (t : Shared) (e : Volume) : Type 0 where
  pub agrees : Agrees t e
  pub booked : books left e.histories ≡ histories
  pub knows : Knows left t e

module _ (size a : ℕ) (x : AbstractActor) (busy : Bool) (lands : ℕ → Bool) (location : Option ℕ) (b : ℕ) (contents : ℕ → Content) (acts : ℕ → List Act) (Knows : List ℕ → Shared → Volume → Type 0)
    (one : (q : ℕ) (left : List ℕ) (t : Shared) (e : Volume) → q < size → Knows (q ∷ left) t e → Leads size a x busy (λ f. Knows left (if_landed (lands q) (put_sector t location b q (contents q)) t) f) e (acts q)) where
  pub sweep : (os : List ℕ) (t : Shared) (e : Volume) → Within size os → Knows os t e → Leads size a x busy (λ f. Knows [] (put_where lands t location b os contents) f) e (each_act acts os)
  sweep [] t e w k = record { run = tt; mine = tt; ends = k }
  sweep (q ∷ os) t e w k = let first = one q os t e w.0 k in leads_both size a x busy _ e (acts q) (each_act acts os) (record { run = first.run; mine = first.mine; ends = sweep os _ _ w.1 first.ends })

-- a step whose acts are those of a sweep
pub sweeps : (size a : ℕ) (rest : AbstractActor → Shared → Volume → Type 0) (x : AbstractActor) (script : Script) (w : Want) (got : Got) (t u : Shared) (e : Volume) (acts swept : List Act) (books : List ℕ → (ℕ → ℕ → History) → ℕ → ℕ → History) (histories : ℕ → ℕ → History) (Knows : List ℕ → Shared → Volume → Type 0) → acts ≡ swept →
    Leads size a x t.committing (λ f. Sweep books histories Knows [] u f) e swept → Ready w x t → ((f : Volume) → Owes script.job w u f) → ((f : Volume) → books [] f.histories ≡ histories → Right a script.job w got e f) → ((f : Volume) → Knows [] u f → rest (actor_after x script w got) u f) →
    Goes size a rest x script w got t u e (after_acts e acts) acts
sweeps size a rest x script w got t u e acts swept books histories Knows same k ready owes right left = subst (λ (ys : List Act). Goes size a rest x script w got t u e (after_acts e ys) ys) (sym same)
    (record { run = k.run; mine = k.mine; agrees = k.ends.agrees; ready = ready; owes = owes _; right = right _ k.ends.booked; left = left _ k.ends.knows })
