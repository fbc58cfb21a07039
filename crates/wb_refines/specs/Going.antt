-- An actor of the abstract world goes on by several results of its own steps, one after the other.
use Rattle.std.specs.Prelude.{◌≡◌, ◌≢◌, ℕ, List, [], ◌∷◌, Option, Some, None, slice_get}
use Rattle.wb_link.specs.Tables.{Script, Want, Share, Own, Read_all, Write_all, End, Got, Done, abstract_want}
use Rattle.wb_link.specs.World.{Shared, Held, Nothing, Shares, Owns, AbstractActor, effect, actor_after, task_after, AbstractGives, Record, Step}

-- the steps of an actor with this task that have these results
abbrev pub records : ℕ → Option Script → List Got → List Record
records a None gots = []
records a (Some script) [] = []
records a (Some script) (got ∷ gots) = Step a (abstract_want script) got ∷ records a (task_after script (abstract_want script) got) gots

-- what is shared after them
abbrev pub shared_after : Shared → AbstractActor → Option Script → List Got → Shared
shared_after s y None gots = s
shared_after s y (Some script) [] = s
shared_after s y (Some script) (got ∷ gots) = shared_after (effect s script.job y.buffer (abstract_want script) got) (actor_after y script (abstract_want script) got) (task_after script (abstract_want script) got) gots

-- and the actor
abbrev pub gone : AbstractActor → Option Script → List Got → AbstractActor
gone y None gots = y
gone y (Some script) [] = y
gone y (Some script) (got ∷ gots) = gone (actor_after y script (abstract_want script) got) (task_after script (abstract_want script) got) gots

-- what an exchange that is won says: who wins holds nothing, and no other actor has what keeps it from the block
abbrev pub WinsBeside : List AbstractActor → ℕ → Held → Want → Got → Type 0
WinsBeside actors a held (Share b) Done = (held ≡ Nothing) × ((c : ℕ) (x : AbstractActor) → c ≢ a → slice_get actors c ≡ Some x → x.held ≢ Owns b)
WinsBeside actors a held (Own b) Done = (held ≡ Nothing) × ((c : ℕ) (x : AbstractActor) → c ≢ a → slice_get actors c ≡ Some x → (x.held ≢ Owns b) × (x.held ≢ Shares b))
WinsBeside actors a held next got = Unit {0}

-- each of the results may come where it does
abbrev pub MayGo : List AbstractActor → ℕ → Shared → AbstractActor → Option Script → List Got → Type 0
MayGo actors a s y task [] = Unit {0}
MayGo actors a s y None (got ∷ gots) = ⊥
MayGo actors a s y (Some script) (got ∷ gots) = AbstractGives s (abstract_want script) got × WinsBeside actors a y.held (abstract_want script) got
    × MayGo actors a (effect s script.job y.buffer (abstract_want script) got) (actor_after y script (abstract_want script) got) (task_after script (abstract_want script) got) gots

-- no step on a device, and no answer
abbrev pub IsQuiet : Want → Type 0
IsQuiet (Read_all location block os) = ⊥
IsQuiet (Write_all location block os) = ⊥
IsQuiet (End answer) = ⊥
IsQuiet next = Unit {0}

-- so is each of the steps that have these results
abbrev pub AreQuiet : Option Script → List Got → Type 0
AreQuiet None gots = Unit {0}
AreQuiet (Some script) [] = Unit {0}
AreQuiet (Some script) (got ∷ gots) = IsQuiet (abstract_want script) × AreQuiet (task_after script (abstract_want script) got) gots
