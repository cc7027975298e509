-- All processes of the group begin.
use Rattle.std.proofs.Common.{◌≡◌, ℕ, true, List, [], ◌∷◌, Option, Some, None, Result, Ok, Err, refl}
use Rattle.std.specs.Prelude.{is_some, is_ok, unwrap_or}
use Rattle.std.specs.Result.{result_ok}
use Rattle.guest_process.specs.Start.{start}
use Rattle.guest_process.specs.State.{State}
use Rattle.group_record.specs.Answer.{first_states_from, with_first_state}
use Rattle.drill_command.specs.Drill.{drill_modules, drill_states}
use Rattle.drill_command.specs.Ring.{ring_module}

never_none : (o : Option State) → is_some o ≡ true → o ≡ None → ⊥
never_none None there none = cc
never_none (Some S) there none = cc

pub always_begins : (who : ℕ) → start ring_module who 4 ≡ None → ⊥
always_begins who none = never_none (start ring_module who 4) refl none

value_of : (r : Result (List State) ℕ) → is_ok r ≡ true → r ≡ Ok (unwrap_or (result_ok r) [])
value_of (Ok states) there = refl
value_of (Err p) there = cc

pub all_begin : first_states_from 4 0 drill_modules ≡ Ok drill_states
unfolding drill_states
all_begin = value_of (first_states_from 4 0 drill_modules) refl

four : (a b c d : Option State) (n0 n1 n2 n3 : State) → a ≡ Some n0 → b ≡ Some n1 → c ≡ Some n2 → d ≡ Some n3
    → unwrap_or (result_ok (with_first_state a 0 (with_first_state b 1 (with_first_state c 2 (with_first_state d 3 (Ok [])))))) [] ≡ n0 ∷ n1 ∷ n2 ∷ n3 ∷ []
four a b c d n0 n1 n2 n3 is_a is_b is_c is_d = rw (is_a, is_b, is_c, is_d) refl

-- their first states, one after the other
pub states_are : (n0 n1 n2 n3 : State) → start ring_module 0 4 ≡ Some n0 → start ring_module 1 4 ≡ Some n1 → start ring_module 2 4 ≡ Some n2 → start ring_module 3 4 ≡ Some n3
    → drill_states ≡ n0 ∷ n1 ∷ n2 ∷ n3 ∷ []
unfolding drill_states
states_are n0 n1 n2 n3 = four (start ring_module 0 4) (start ring_module 1 4) (start ring_module 2 4) (start ring_module 3 4) n0 n1 n2 n3
