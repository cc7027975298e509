-- How a group goes on, step after step.
use Rattle.std.proofs.Common.{◌≡◌, ◌∙◌, ℕ, ◌++◌, Bool, true, false, List, [], ◌∷◌, refl, ap, sym, arith, append-nil, length-append}
use Rattle.std.proofs.lemmas.List.{append_assoc}
use Rattle.group_record.specs.Live.{IsLiveAfter, LiveParts}
use Rattle.group_record.specs.Run.{GroupStart, RunProgress, RunStep}
use Rattle.play_command.specs.Play.{step_line, step_lines}
use Rattle.play_command.specs.declared.told.Told.{Told}
use Rattle.play_command.specs.inside.Playing.{WentOn, told_if}

-- ---- what is told

pub none_told : (tells : Bool) (text : List ℕ) → text ≡ text ++ told_if tells []
none_told true text = sym (append-nil text)
none_told false text = sym (append-nil text)

told_joins : (tells : Bool) (text first more : List ℕ) → (text ++ told_if tells first) ++ told_if tells more ≡ text ++ told_if tells (first ++ more)
told_joins true text first more = append_assoc text first more
told_joins false text first more = append-nil (text ++ [])

-- the lines of later steps come behind those of earlier ones
lines_join : (group : GroupStart) (later early : List RunStep) → step_lines group (later ++ early) ≡ step_lines group early ++ step_lines group later
lines_join group [] early = sym (append-nil (step_lines group early))
lines_join group (step ∷ later) early =
    ap (λ (lines : List ℕ). lines ++ step_line group step) (lines_join group later early) ∙ append_assoc (step_lines group early) (step_lines group later) (step_line group step)

-- ---- one after the other

pub stands_still : (group : GroupStart) (before : RunProgress) (live : LiveParts) (told : Told) → IsLiveAfter group before.steps live → WentOn group before before live told told
stands_still group before live told stands = record {
  made = [];
  steps = refl;
  stands = stands;
  tells = refl;
  text = none_told told.tells told.text;
  acted = omega arith;
  idle = refl;
}

pub goes_further : (group : GroupStart) (a b c : RunProgress) (middle last : LiveParts) (t u v : Told) → WentOn group a b middle t u → WentOn group b c last u v → WentOn group a c last t v
goes_further group a b c middle last t u v first further = record {
  made = further.made ++ first.made;
  steps = further.steps ∙ ap (λ (steps : List RunStep). further.made ++ steps) first.steps ∙ sym (append_assoc further.made first.made a.steps);
  stands = further.stands;
  tells = further.tells ∙ first.tells;
  text = further.text
      ∙ ap (λ (tells : Bool). u.text ++ told_if tells (step_lines group further.made)) first.tells
      ∙ ap (λ (text : List ℕ). text ++ told_if t.tells (step_lines group further.made)) first.text
      ∙ told_joins t.tells t.text (step_lines group first.made) (step_lines group further.made)
      ∙ ap (λ (lines : List ℕ). t.text ++ told_if t.tells lines) (sym (lines_join group further.made first.made));
  acted = omega (arith, first.acted, further.acted, length-append further.made first.made);
  idle = omega (arith, first.idle, further.idle);
}
