-- Answers of clients beside the first, as they are printed at a join.
use Rattle.std.specs.Prelude.{◌==◌, ◌+◌, ◌-◌, ◌^◌, ◌++◌, ℕ, suc, zero, min, Bool, true, false, List, [], ◌∷◌, codes}

-- what leads each line of a client: '@', its digit, a space
abbrev pub lead_of : ℕ → List ℕ
lead_of client = 64 ∷ (client + 48) ∷ 32 ∷ []

-- A text, each line of it led so; whether its first byte begins a line.
abbrev pub lines_led : List ℕ → Bool → List ℕ → List ℕ
lines_led lead begins [] = []
lines_led lead true (b ∷ bs) = lead ++ b ∷ lines_led lead (b == 10) bs
lines_led lead false (b ∷ bs) = b ∷ lines_led lead (b == 10) bs

-- a text of a client, each line of it led by its name
abbrev pub led_by : ℕ → List ℕ → List ℕ
led_by client text = lines_led (lead_of client) true text

-- a text, so often
abbrev pub repeated : ℕ → List ℕ → List ℕ
repeated zero text = []
repeated (suc n) text = text ++ repeated n text

-- what a line prints for which there is no memory
abbrev pub want_of_memory : List ℕ
want_of_memory = codes "refused 7 Memory" ++ 10 ∷ []

-- so many more, as far as a word counts
abbrev pub capped_sum : ℕ → ℕ → ℕ
capped_sum many more = min (many + more) (2 ^ 64 - 1)
