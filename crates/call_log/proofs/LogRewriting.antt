-- Writing a log again, entry by entry.
use Rattle.std.proofs.Common.{◌≡◌, ℕ, suc, ◌+◌, ◌-◌, ◌<◌, List, ◌∷◌, ◌++◌, take, sym, ap, ◌∙◌, arith, append_assoc}
use Rattle.lib_calls.specs.declared.entry.Entry.{Entry}
use Rattle.call_log.specs.declared.version.Version.TheVariants.{Two}
use Rattle.call_log.specs.Entry.{encoding, encodings}

-- one entry more
pub written_more : (out new whole : List ℕ) (last most counter : ℕ) (e : Entry) (left es : List Entry) → counter < most → left ≡ e ∷ es → new ≡ out ++ encoding Two last e
    → out ++ encodings Two last (take (most - counter) left) ≡ whole → new ++ encodings Two e.clock (take (most - (counter + 1)) es) ≡ whole
written_more out new whole last most counter e left es low first put so_far =
    let more : ℕ = most - (counter + 1) in
    let one : most - counter ≡ suc more = omega arith in
    let others : List ℕ = encodings Two e.clock (take more es) in
    ap (λ (t : List ℕ). t ++ others) put ∙ append_assoc out (encoding Two last e) others
    ∙ ap (λ (n : ℕ). out ++ encodings Two last (take n (e ∷ es))) (sym one)
    ∙ ap (λ (all : List Entry). out ++ encodings Two last (take (most - counter) all)) (sym first)
    ∙ so_far
