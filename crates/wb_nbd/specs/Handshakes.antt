-- What a handshake is.
use Rattle.std.specs.Prelude.{◌≡◌, ◌⊎◌, ℕ, List, Bool, true, false, Option, Some, None, length}
use Rattle.std.specs.Io.KnownBytes.{Consumes, Appends}
use Rattle.wb_nbd.specs.declared.option.Wish.{Wish}
use Rattle.wb_nbd.specs.declared.option.Wish.TheVariants.{Start, StartLong, Abort as AbortWish, List as ListWish, Info, Go, Refuse}
use Rattle.wb_nbd.specs.declared.handshake.Agreed.{Agreed}
use Rattle.wb_nbd.specs.declared.handshake.Agreed.TheVariants.{Serve, Abort}
use Rattle.wb_nbd.specs.declared.terms.Terms.{Terms}
use Rattle.wb_nbd.specs.Bytes.{number_at}
use Rattle.wb_nbd.specs.Options.{Wants}
use Rattle.wb_nbd.specs.Terms.{greeting, answer_to}
use Rattle.wb_nbd.specs.Talking.{Chain}

-- what the reader has left and what the writer holds, where they tell
pub record Lines : Type 0 where
  pub input : Option (List ℕ)
  pub output : Option (List ℕ)

abbrev pub lines : Option (List ℕ) → Option (List ℕ) → Lines
lines input output = record { input = input; output = output }

-- what an option leads to, if anything
abbrev pub LeadsTo : Wish → Option Agreed → Type 0
LeadsTo Start outcome = outcome ≡ Some Serve
LeadsTo Go outcome = outcome ≡ Some Serve
LeadsTo AbortWish outcome = outcome ≡ Some Abort
LeadsTo StartLong outcome = ⊥
LeadsTo ListWish outcome = outcome ≡ None
LeadsTo Info outcome = outcome ≡ None
LeadsTo (Refuse error) outcome = outcome ≡ None

-- an option and its answer
pub record OptionTurn (terms : Terms) (brief : Bool) (outcome : Option Agreed) (old new : Lines) : Type 0 where
  pub asked : List ℕ
  pub number : ℕ
  pub wish : Wish
  pub taken : Consumes old.input new.input asked
  pub wanted : Wants asked number wish
  pub sent : Appends old.output new.output (answer_to terms brief number wish)
  pub leads : LeadsTo wish outcome

-- options and their answers, of which the last one alone leads on
abbrev pub Haggles : Terms → Bool → Agreed → Lines → Lines → Type 0
Haggles terms brief agreed old new = (last : Lines) × Chain (OptionTurn terms brief None) old last × OptionTurn terms brief (Some agreed) last new

-- What a client answers to the greeting: bit 0, that it knows the fixed handshake, is taken either way; bit 1 is that zeros are left
-- out; no other bit may be set.
abbrev pub AreClientFlags : List ℕ → Bool → Type 0
AreClientFlags bytes false = (length bytes ≡ 4) × ((number_at bytes 0 4 ≡ 0) ⊎ (number_at bytes 0 4 ≡ 1))
AreClientFlags bytes true = (length bytes ≡ 4) × ((number_at bytes 0 4 ≡ 2) ⊎ (number_at bytes 0 4 ≡ 3))

-- a handshake: the greeting, the client's answer to it, and options
pub record AgreesOn (terms : Terms) (agreed : Agreed) (old new : Lines) : Type 0 where
  pub greeted : Lines
  pub flagged : Lines
  pub flags : List ℕ
  pub brief : Bool
  pub listened : greeted.input ≡ old.input
  pub greeting : Appends old.output greeted.output greeting
  pub taken : Consumes greeted.input flagged.input flags
  pub flags_are : AreClientFlags flags brief
  pub kept : flagged.output ≡ greeted.output
  pub haggled : Haggles terms brief agreed flagged new
