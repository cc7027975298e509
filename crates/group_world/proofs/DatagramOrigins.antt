-- Each datagram of a mailbox came from outside or is one that was sent and delivered.
use Rattle.std.proofs.Common.{◌≡◌, ℕ, zero, suc, ◌+◌, Bool, true, false, ◌&&◌, List, [], ◌∷◌, ◌++◌, drop, Option, Some, None, refl, sym, ap, ◌∙◌, subst, ⊎_elim, arith, length-drop}
use Rattle.std.specs.Prelude.{◌==◌, Contains, if◌then◌else◌}
use Rattle.std.proofs.lemmas.Bool.{eqb-true}
use Rattle.std.proofs.lemmas.List.{get_or-drop}
use Rattle.std.proofs.lemmas.List.Elements.{Contains-append_cases, Contains-append_right, Contains-push_cases}
use Rattle.lib_calls.specs.declared.entry.Entry.{Entry}
use Rattle.lib_calls.specs.Traffic.{is_sent}
use Rattle.lossy_net.specs.Network.{nth_of}
use Rattle.group_world.specs.History.{Act, Event, Deliver, Inject, History, addressed_datagram, datagram, given, put_last_if, sends, taken_count}
use Rattle.group_world.specs.Laws.{HasOrigin, OriginOfDatagram, FromOutside, FromSend}

-- ---- lists

in_rest : {A : Type 0} (n : ℕ) (xs : List A) (x : A) → Contains (drop n xs) x → Contains xs x
in_rest n xs x held = (n + held.0, omega (arith, held.1, length-drop n xs), sym (get_or-drop n xs held.0 x) ∙ held.2)

held_before : {A : Type 0} (y : A) (xs : List A) (x : A) → Contains xs x → Contains (y ∷ xs) x
held_before y xs x held = Contains-append_right (y ∷ []) xs x held

held_first : {A : Type 0} (xs : List A) (x : A) → Contains (x ∷ xs) x
held_first xs x = (0, omega arith, refl)

not_in_none : {A : Type 0} (x : A) → Contains [] x → ⊥
not_in_none x held = omega (arith, held.1)

is_only : {A : Type 0} (y x : A) → Contains (y ∷ []) x → y ≡ x
is_only y x held = ⊎_elim (λ none. absurd (not_in_none x none)) (λ is. is) (Contains-push_cases [] y x held)

-- ---- a number once given is kept

nth-push : {A : Type 0} (xs : List A) (last x : A) (n : ℕ) → nth_of xs n ≡ Some x → nth_of (xs ++ last ∷ []) n ≡ Some x
nth-push xs last x zero found = found
nth-push [] last x (suc n) found = absurd cc
nth-push (y ∷ xs) last x (suc zero) found = found
nth-push (y ∷ xs) last x (suc (suc n)) found = nth-push xs last x (suc n) found

nth-push_if : {A : Type 0} (b : Bool) (xs : List A) (last x : A) (n : ℕ) → nth_of xs n ≡ Some x → nth_of (put_last_if b xs last) n ≡ Some x
nth-push_if true xs last x n found = nth-push xs last x n found
nth-push_if false xs last x n found = found

stays_sent : (count : ℕ) (h : History) (a : Act) (q n : ℕ) (e : Entry) → nth_of (sends count h q) n ≡ Some e → nth_of (sends count (a ∷ h) q) n ≡ Some e
stays_sent count h (Event p last) q n e found = nth-push_if ((p == q) && is_sent count last) (sends count h q) last e n found
stays_sent count h a q n e found = found

-- what has an origin has it after a further act
later : (count : ℕ) (h : History) (p : ℕ) (bytes : List ℕ) (a : Act) → OriginOfDatagram count h p bytes → OriginOfDatagram count (a ∷ h) p bytes
later count h p bytes a (FromOutside came) = FromOutside (held_before a h (Inject p bytes) came)
later count h p bytes a (FromSend q n e delivered found to is) =
    FromSend q n e (held_before a h (Deliver q n) delivered) (stays_sent count h a q n e found) to is

-- ---- what an act gives

addressed_to : (p : ℕ) (q : ℕ) (e : Entry) (mine : Bool) (bytes : List ℕ) → Contains (if mine then datagram q e ∷ [] else []) bytes
    → (mine ≡ true) × (datagram q e ≡ bytes)
addressed_to p q e true bytes held = (refl, is_only (datagram q e) bytes held)
addressed_to p q e false bytes held = absurd (not_in_none bytes held)

delivers : (count : ℕ) (h : History) (p q n : ℕ) (bytes : List ℕ) (found : Option Entry) → nth_of (sends count h q) n ≡ found
    → Contains (addressed_datagram q p found) bytes → OriginOfDatagram count (Deliver q n ∷ h) p bytes
delivers count h p q n bytes None found held = absurd (not_in_none bytes held)
delivers count h p q n bytes (Some e) found held =
    let facts = addressed_to p q e (e.call.a0 == p) bytes held in
    FromSend q n e (held_first h (Deliver q n)) found (eqb-true e.call.a0 p facts.0) (sym facts.1)

injects : (count : ℕ) (h : History) (p q : ℕ) (given_bytes bytes : List ℕ) (before : List (List ℕ)) (mine : Bool) → (q == p) ≡ mine
    → (Contains before bytes → OriginOfDatagram count (Inject q given_bytes ∷ h) p bytes)
    → Contains (put_last_if mine before given_bytes) bytes → OriginOfDatagram count (Inject q given_bytes ∷ h) p bytes
injects count h p q given_bytes bytes before true is earlier held = ⊎_elim
    earlier
    (λ same. FromOutside (subst (λ a. Contains (Inject q given_bytes ∷ h) a) (ap (λ k. Inject k given_bytes) (eqb-true q p is) ∙ ap (Inject p) same) (held_first h (Inject q given_bytes))))
    (Contains-push_cases before given_bytes bytes held)
injects count h p q given_bytes bytes before false is earlier held = earlier held

-- ---- all acts

given_has_origin : (count : ℕ) (h : History) (p : ℕ) (bytes : List ℕ) → Contains (given count h p) bytes → OriginOfDatagram count h p bytes
given_has_origin count [] p bytes held = absurd (not_in_none bytes held)
given_has_origin count (Deliver q n ∷ h) p bytes held = ⊎_elim
    (λ before. later count h p bytes (Deliver q n) (given_has_origin count h p bytes before))
    (λ last. delivers count h p q n bytes (nth_of (sends count h q) n) refl last)
    (Contains-append_cases (given count h p) (addressed_datagram q p (nth_of (sends count h q) n)) bytes held)
given_has_origin count (Inject q last ∷ h) p bytes held =
    injects count h p q last bytes (given count h p) (q == p) refl
    (λ before. later count h p bytes (Inject q last) (given_has_origin count h p bytes before)) held
given_has_origin count (a ∷ h) p bytes held = later count h p bytes a (given_has_origin count h p bytes held)

pub has_origin : HasOrigin
has_origin count h p bytes held = given_has_origin count h p bytes (in_rest (taken_count h p) (given count h p) bytes held)
