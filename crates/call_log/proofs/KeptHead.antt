-- A log that keeps its bytes is the one that its head and the bytes after it spell.
use Rattle.std.proofs.Common.{◌≡◌, ◌∙◌, ◌-◌, ℕ, List, [], ◌∷◌, ◌++◌, length, drop, take, codes, ap, append_assoc, append-nil, arith, length-append, refl, subst, sym}
use Rattle.std.specs.Int.{w32, to_le_bytes}
use Rattle.std.proofs.Math.Seq.{take-append_seam}
use Rattle.std.proofs.lemmas.List.{drop_at}
use Rattle.call_log.specs.Head.{Head, IsHead, head_bytes}
use Rattle.call_log.specs.Log.{Log, unread_after_head}
use Rattle.call_log.specs.Version.{version_number}
use Rattle.call_log.specs.inside.Kept.{AreLog, kept_log, name_start}

-- the head but for the name
abbrev before_name : Head → List ℕ
before_name h = codes "LLOG" ++ to_le_bytes w32 (version_number h.version) ++ to_le_bytes w32 h.count ++ to_le_bytes w32 h.process ++ (length h.name ∷ [])

name_last : (h : Head) → head_bytes h ≡ before_name h ++ h.name
unfolding head_bytes
name_last h = ap (λ (t : List ℕ). before_name h ++ t) (append-nil h.name)

name_found : (h : Head) (rest : List ℕ) → take (length (head_bytes h) - name_start) (drop name_start (head_bytes h ++ rest)) ≡ h.name
name_found h rest =
    let behind : drop name_start (head_bytes h ++ rest) ≡ h.name ++ rest =
    ap (λ (t : List ℕ). drop name_start (t ++ rest)) (name_last h)
    ∙ ap (drop name_start) (append_assoc (before_name h) h.name rest) ∙ drop_at (before_name h) (h.name ++ rest) name_start refl in
    let size : length (head_bytes h) - name_start ≡ length h.name = omega (arith, ap length (name_last h), length-append (before_name h) h.name) in
    ap (take (length (head_bytes h) - name_start)) behind ∙ ap (λ (n : ℕ). take n (h.name ++ rest)) size ∙ take-append_seam h.name rest

-- what these parts of a head and these bytes stand for
pub kept_is : (h : Head) (bytes rest : List ℕ) (n : ℕ) → bytes ≡ head_bytes h ++ rest → n ≡ length (head_bytes h)
    → kept_log bytes h.version h.count h.process n ≡ record { head = h; left = unread_after_head h rest }
kept_is h bytes rest n spelled ends =
    ap (λ (b : List ℕ). kept_log b h.version h.count h.process n) spelled
    ∙ ap (λ (n : ℕ). kept_log (head_bytes h ++ rest) h.version h.count h.process n) ends
    ∙ ap (λ (name : List ℕ). with_name name (drop (length (head_bytes h)) (head_bytes h ++ rest))) (name_found h rest)
    ∙ ap (with_name h.name) (drop_at (head_bytes h) rest (length (head_bytes h)) refl)
  where
    with_name : List ℕ → List ℕ → Log
    with_name name bytes = record {
      head = record { version = h.version; count = h.count; process = h.process; name = name };
      left = record { version = h.version; last = 0; bytes = bytes };
    }

pub are_log : (h : Head) (bytes rest : List ℕ) (n : ℕ) → IsHead h → bytes ≡ head_bytes h ++ rest → n ≡ length (head_bytes h)
    → AreLog bytes (kept_log bytes h.version h.count h.process n) n
are_log h bytes rest n fits spelled ends =
    subst (λ (log : Log). AreLog bytes log n) (sym (kept_is h bytes rest n spelled ends)) (record { head = fits; spelled = spelled; ends = ends })
