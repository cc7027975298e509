-- Reading sections gives what their spellings say.
use Rattle.std.proofs.Common.{◌≡◌, ℕ, zero, suc, ◌<◌, ◌≤◌, true, false, eqb, inl, inr, List, [], ◌∷◌, ◌++◌, length, drop, Option, Some, None, refl, sym, ap, ◌∙◌, subst, append_assoc, arith, length-append}
use Rattle.std.proofs.lemmas.Bool.{eqb-true, eq-eqb, ne_eqb}
use Rattle.std.proofs.lemmas.List.{append-nil}
use Rattle.fri_bytes.specs.Laws.{ExactReaders}
use Rattle.fri_bytes.specs.Reading.{Reads, byte_at}
use Rattle.wasm_decode.specs.declared.error.DecodeError.{DecodeError}
use Rattle.wasm_decode.specs.declared.error.DecodeError.TheVariants as errors
use Rattle.wasm_decode.specs.inside.Decoding.{IsErrorOf}
use Rattle.wasm_decode.specs.Grammar.{IsBytes, IsEach, IsSized, BeginsWithName, IsCustom, AreCustoms, IsSection, HasSection}
use Rattle.wasm_decode.specs.Values.{Reader, byte_vector_at, utf8_name_at, whole_read, sized_at}
use Rattle.wasm_decode.specs.Sections.{custom_name_of, starts_with_byte, skip_customs_at, customs_at, contents_at, contents_value, section_at}
use Rattle.wasm_decode.proofs.ReaderSteps.{chosen, bind_some, some_is, joined, joined_byte, byte_takes}
use Rattle.wasm_decode.proofs.ValueLemmas.{ReadsAll, bytes_reads, name_reads, all_reads, sized_reads}

starts_is : (id : ℕ) (bytes : List ℕ) → starts_with_byte id bytes ≡ true → bytes ≡ id ∷ drop 1 bytes
starts_is id [] e = absurd cc
starts_is id (b ∷ bytes) e = ap (λ (k : ℕ). k ∷ bytes) (eqb-true b id e)

-- one more custom section in front
more_customs : (sized name rest : List ℕ) → IsSized BeginsWithName sized name → AreCustoms rest → AreCustoms ((0 ∷ sized) ++ rest)
more_customs sized name rest one others = (name ∷ others.0, (0 ∷ sized, rest, refl, (sized, refl, one), others.1))

-- passing over custom sections leaves this, however many may be passed over
abbrev pub Leads : List ℕ → List ℕ → Type 0
Leads bytes rest = (count : ℕ) → length bytes ≤ count → skip_customs_at count bytes ≡ Some rest

stays : (bytes : List ℕ) → starts_with_byte 0 bytes ≡ false → Leads bytes bytes
unfolding skip_customs_at
stays bytes none zero room = refl
stays bytes none (suc count) room = rw none refl

pub skip_fails : (e : DecodeError) (count : ℕ) (bytes : List ℕ) (b : ℕ) (behind : List ℕ) (total : Option (List ℕ)) → byte_at bytes ≡ Some (b, behind) → starts_with_byte 0 bytes ≡ true → IsErrorOf e (sized_at custom_name_of behind) → length bytes ≤ count → skip_customs_at count bytes ≡ total → IsErrorOf e total
unfolding skip_customs_at
skip_fails errors.NoMemory count bytes b behind total byte next custom room so_far = tt
skip_fails errors.Malformed zero bytes b behind total byte next custom room so_far = absurd (omega (arith, ap length (byte_takes bytes b behind byte)))
skip_fails errors.Malformed (suc count) bytes b behind total byte next custom room so_far =
    let rest : drop 1 bytes ≡ behind = ap (drop 1) (byte_takes bytes b behind byte) in
    let one : skip_customs_at (suc count) bytes ≡ None = rw (next, rest, custom) refl in
    sym so_far ∙ one

pub skip_done : (count : ℕ) (bytes : List ℕ) (total : Option (List ℕ)) → starts_with_byte 0 bytes ≡ false → length bytes ≤ count → skip_customs_at count bytes ≡ total → total ≡ Some bytes
skip_done count bytes total none room so_far = sym so_far ∙ stays bytes none count room

pub customs_is : (bytes : List ℕ) → skip_customs_at (length bytes) bytes ≡ customs_at bytes
unfolding customs_at
customs_is bytes = refl

-- ---- a section in front of others

-- the bytes begin with no id up to this one
abbrev Above : ℕ → List ℕ → Type 0
Above from bytes = (k : ℕ) → k ≤ from → starts_with_byte k bytes ≡ false

-- what follows a section: after custom sections it is still that, and begins with a greater id
pub record Tail (from : ℕ) (Q : List ℕ → Type 0) : Type 0 where
  pub skips : (bytes : List ℕ) → Q bytes → (rest : List ℕ) × Leads bytes rest × Q rest × Above from rest

-- what a section's bytes are where its contents were found
abbrev Found : ℕ → List ℕ → Option (List ℕ) → Type 0
Found id s None = s ≡ []
Found id s (Some contents) = (sized : List ℕ) × (s ≡ id ∷ sized) × IsBytes sized contents

abbrev Contents : ℕ → List ℕ → Option (List ℕ) → List ℕ → Type 0
Contents id bytes found rest = (customs s : List ℕ) × (bytes ≡ (customs ++ s) ++ rest) × AreCustoms customs × Found id s found

value_takes : {A : Type 0} (id : ℕ) (absent : A) (P : List ℕ → A → Type 0) (x : A) (read : Reader A) → Reads P read → (s : List ℕ) (found : Option (List ℕ)) → Found id s found → contents_value absent read found ≡ Some x → IsSection id absent P x s
value_takes {A} id absent P x read laws s None nothing e = inl (nothing, sym (some_is absent x e))
value_takes id absent P x read laws s (Some contents) (sized, parts, piece) e = inr (sized, parts, (contents, piece, (all_reads P read laws).takes contents x e))

module _ (readers : ExactReaders) where
  -- ---- custom sections

  custom_name_reads : ReadsAll BeginsWithName custom_name_of
  unfolding custom_name_of
  custom_name_reads = record {
    takes = λ bytes name e.
        let a = bind_some _ _ _ e in
        let front = (name_reads readers).takes bytes a.0.0 a.0.1 a.1 in
        subst (BeginsWithName bytes) (some_is a.0.0 name a.2) (front.0, a.0.1, front.1, front.2);
    again = λ bytes name h.
        let front : utf8_name_at bytes ≡ Some (name, h.1) = ap utf8_name_at h.2 ∙ (name_reads readers).again h.0 name h.1 h.3 in
        rw front refl;
  }

  custom_reads : Reads (IsSized BeginsWithName) (sized_at custom_name_of)
  custom_reads = sized_reads readers BeginsWithName custom_name_of custom_name_reads

  skip_takes : (count : ℕ) (bytes rest : List ℕ) → length bytes ≤ count → skip_customs_at count bytes ≡ Some rest → (c : List ℕ) × (bytes ≡ c ++ rest) × AreCustoms c
  unfolding skip_customs_at
  skip_takes zero bytes rest room e = subst (λ (r : List ℕ). (c : List ℕ) × (bytes ≡ c ++ r) × AreCustoms c) (some_is bytes rest e) ([], refl, ([], refl))
  skip_takes (suc count) bytes rest room e =
      elim (chosen (starts_with_byte 0 bytes) _ _ _ e) [
        | inl p ↦
            let a = bind_some _ _ _ p.1 in
            let whole : bytes ≡ 0 ∷ drop 1 bytes = starts_is 0 bytes p.0 in
            let one = custom_reads.takes (drop 1 bytes) a.0.0 a.0.1 a.1 in
            let less : length a.0.1 ≤ count = omega (arith, ap length whole, ap length one.1, length-append one.0 a.0.1) in
            let others = skip_takes count a.0.1 rest less a.2 in
            let behind = joined (drop 1 bytes) one.0 a.0.1 others.0 rest one.1 others.1 in
            let parts = joined_byte bytes 0 (drop 1 bytes) (one.0 ++ others.0) rest whole behind in
            ((0 ∷ one.0) ++ others.0, parts, more_customs one.0 a.0.0 others.0 one.2 others.2)
        | inr p ↦ subst (λ (r : List ℕ). (c : List ℕ) × (bytes ≡ c ++ r) × AreCustoms c) (some_is bytes rest p.1) ([], refl, ([], refl))
      ]

  customs_then : (names : List (List ℕ)) (c bytes rest : List ℕ) → IsEach IsCustom c names → Leads bytes rest → Leads (c ++ bytes) rest
  unfolding skip_customs_at
  customs_then [] c bytes rest h leads count room = rw h (leads count (subst (λ (s : List ℕ). length (s ++ bytes) ≤ count) h room))
  customs_then (name ∷ names) c bytes rest (front, others, parts, (sized, begins, one), more) leads zero room =
      absurd (omega (arith, ap length parts, ap length begins, length-append front others, length-append c bytes))
  customs_then (name ∷ names) c bytes rest (front, others, parts, (sized, begins, one), more) leads (suc count) room =
      let all : c ++ bytes ≡ 0 ∷ (sized ++ (others ++ bytes)) = ap (λ (s : List ℕ). s ++ bytes) (parts ∙ ap (λ (s : List ℕ). s ++ others) begins) ∙ ap (λ (s : List ℕ). 0 ∷ s) (append_assoc sized others bytes) in
      let less : length (others ++ bytes) ≤ count = omega (arith, ap length all, length-append sized (others ++ bytes)) in
      ap (skip_customs_at (suc count)) all ∙ rw (custom_reads.again sized name (others ++ bytes) one) (customs_then names others bytes rest more leads count less)

  pub customs_take : (bytes : List ℕ) → customs_at bytes ≡ Some [] → AreCustoms bytes
  unfolding customs_at
  customs_take bytes e =
      let s = skip_takes (length bytes) bytes [] (omega arith) e in
      subst AreCustoms (sym (s.1 ∙ append-nil s.0)) s.2

  pub customs_again : (bytes : List ℕ) → AreCustoms bytes → customs_at bytes ≡ Some []
  unfolding customs_at
  customs_again bytes h =
      let leads = customs_then h.0 bytes [] [] h.1 (stays [] refl) in
      subst (λ (s : List ℕ). Leads s []) (append-nil bytes) leads (length bytes) (omega arith)

  -- ---- the loop over custom sections

  pub custom_shorter : (bytes : List ℕ) (b : ℕ) (behind name after : List ℕ) → byte_at bytes ≡ Some (b, behind) → sized_at custom_name_of behind ≡ Some (name, after) → length after < length bytes
  custom_shorter bytes b behind name after byte custom =
      let one = custom_reads.takes behind name after custom in
      omega (arith, ap length (byte_takes bytes b behind byte), ap length one.1, length-append one.0 after)

  pub skip_more : (count : ℕ) (bytes : List ℕ) (b : ℕ) (behind name after : List ℕ) (total : Option (List ℕ)) → byte_at bytes ≡ Some (b, behind) → starts_with_byte 0 bytes ≡ true → sized_at custom_name_of behind ≡ Some (name, after) → length bytes ≤ count → skip_customs_at count bytes ≡ total
      → (k : ℕ) × (length after ≤ k) × (skip_customs_at k after ≡ total)
  unfolding skip_customs_at
  skip_more zero bytes b behind name after total byte next custom room so_far = absurd (omega (arith, custom_shorter bytes b behind name after byte custom))
  skip_more (suc count) bytes b behind name after total byte next custom room so_far =
      let all : bytes ≡ b ∷ behind = byte_takes bytes b behind byte in
      let less : length after ≤ count = omega (arith, custom_shorter bytes b behind name after byte custom) in
      let rest : drop 1 bytes ≡ behind = ap (drop 1) all in
      let one : skip_customs_at (suc count) bytes ≡ skip_customs_at count after = rw (next, rest, custom) refl in
      (count, less, sym one ∙ so_far)

  pub tail_end : (from : ℕ) → Tail from AreCustoms
  tail_end from = record {
    skips = λ bytes h.
        let leads : Leads (bytes ++ []) [] = customs_then h.0 bytes [] [] h.1 (stays [] refl) in
        ([], subst (λ (s : List ℕ). Leads s []) (append-nil bytes) leads, ([], refl), λ k le. refl);
  }

  pub tail_after : {A : Type 0} (from id : ℕ) (absent : A) (P : List ℕ → A → Type 0) (x : A) (Q : List ℕ → Type 0) → from < id → Tail id Q → Tail from (HasSection (IsSection id absent P x) Q)
  tail_after from id absent P x Q less tail = record {
    skips = λ bytes h.
        elim h.is_section [
          | inl gone ↦
              let t = tail.skips h.others h.follow in
              let all : h.customs ++ h.others ≡ bytes = sym (h.parts ∙ ap (λ (s : List ℕ). (h.customs ++ s) ++ h.others) gone.0 ∙ ap (λ (s : List ℕ). s ++ h.others) (append-nil h.customs)) in
              let leads = customs_then h.are_customs.0 h.customs h.others t.0 h.are_customs.1 t.1 in
              let after : HasSection (IsSection id absent P x) Q t.0 = record { customs = []; section = []; others = t.0; parts = refl; are_customs = ([], refl); is_section = inl (refl, gone.1); follow = t.2 } in
              (t.0, subst (λ (s : List ℕ). Leads s t.0) all leads, after, λ k le. t.3 k (omega arith))
          | inr present ↦
              let rest = (id ∷ present.0) ++ h.others in
              let all : h.customs ++ rest ≡ bytes = sym (h.parts ∙ ap (λ (s : List ℕ). (h.customs ++ s) ++ h.others) present.1 ∙ append_assoc h.customs (id ∷ present.0) h.others) in
              let above : Above from rest = λ k le. ne_eqb id k (λ same. omega arith) in
              let leads = customs_then h.are_customs.0 h.customs rest rest h.are_customs.1 (stays rest (above 0 (omega arith))) in
              let after : HasSection (IsSection id absent P x) Q rest = record { customs = []; section = id ∷ present.0; others = h.others; parts = refl; are_customs = ([], refl); is_section = inr (present.0, refl, present.2); follow = h.follow } in
              (rest, subst (λ (s : List ℕ). Leads s rest) all leads, after, above)
        ];
  }

  pub section_again : {A : Type 0} (id : ℕ) (absent : A) (P : List ℕ → A → Type 0) (x : A) (Q : List ℕ → Type 0) (read : Reader A) → Reads P read → 0 < id → Tail id Q → (bytes : List ℕ) → HasSection (IsSection id absent P x) Q bytes
      → (rest : List ℕ) × (section_at id absent read bytes ≡ Some (x, rest)) × Q rest
  unfolding section_at contents_at customs_at
  section_again {A} id absent P x Q read laws some tail bytes h =
      elim h.is_section [
        | inl gone ↦
            let t = tail.skips h.others h.follow in
            let all : h.customs ++ h.others ≡ bytes = sym (h.parts ∙ ap (λ (s : List ℕ). (h.customs ++ s) ++ h.others) gone.0 ∙ ap (λ (s : List ℕ). s ++ h.others) (append-nil h.customs)) in
            let leads : Leads bytes t.0 = subst (λ (s : List ℕ). Leads s t.0) all (customs_then h.are_customs.0 h.customs h.others t.0 h.are_customs.1 t.1) in
            let skipped : skip_customs_at (length bytes) bytes ≡ Some t.0 = leads (length bytes) (omega arith) in
            let other : starts_with_byte id t.0 ≡ false = t.3 id (omega arith) in
            (t.0, rw (skipped, other) (ap (λ (y : A). Some (y, t.0)) (sym gone.1)), t.2)
        | inr present ↦
            let sized = present.0 in
            let rest = (id ∷ sized) ++ h.others in
            let all : h.customs ++ rest ≡ bytes = sym (h.parts ∙ ap (λ (s : List ℕ). (h.customs ++ s) ++ h.others) present.1 ∙ append_assoc h.customs (id ∷ sized) h.others) in
            let not_custom : starts_with_byte 0 rest ≡ false = ne_eqb id 0 (λ same. omega arith) in
            let leads : Leads bytes rest = subst (λ (s : List ℕ). Leads s rest) all (customs_then h.are_customs.0 h.customs rest rest h.are_customs.1 (stays rest not_custom)) in
            let skipped : skip_customs_at (length bytes) bytes ≡ Some rest = leads (length bytes) (omega arith) in
            let same : eqb id id ≡ true = eq-eqb id id refl in
            let contents = present.2.0 in
            let piece : byte_vector_at (sized ++ h.others) ≡ Some (contents, h.others) = (bytes_reads readers).again sized contents h.others present.2.1 in
            let value : whole_read read contents ≡ Some x = (all_reads P read laws).again contents x present.2.2 in
            (h.others, rw (skipped, same, piece, value) refl, h.follow)
      ]

  contents_take : (id : ℕ) (bytes : List ℕ) (found : Option (List ℕ)) (rest : List ℕ) → contents_at id bytes ≡ Some (found, rest) → Contents id bytes found rest
  unfolding contents_at customs_at
  contents_take id bytes found rest e =
      let a = bind_some _ _ _ e in
      let s = skip_takes (length bytes) bytes a.0 (omega arith) a.1 in
      elim (chosen (starts_with_byte id a.0) _ _ _ a.2) [
        | inl p ↦
            let b = bind_some _ _ _ p.1 in
            let piece = (bytes_reads readers).takes (drop 1 a.0) b.0.0 b.0.1 b.1 in
            let section = id ∷ piece.0 in
            let behind = joined_byte a.0 id (drop 1 a.0) piece.0 b.0.1 (starts_is id a.0 p.0) piece.1 in
            subst (λ (y : Option (List ℕ) × List ℕ). Contents id bytes y.0 y.1) (some_is (Some b.0.0, b.0.1) (found, rest) b.2)
            (s.0, section, joined bytes s.0 a.0 section b.0.1 s.1 behind, s.2, (piece.0, refl, piece.2))
        | inr p ↦
            subst (λ (y : Option (List ℕ) × List ℕ). Contents id bytes y.0 y.1) (some_is (None, a.0) (found, rest) p.1)
            (s.0, [], joined bytes s.0 a.0 [] a.0 s.1 refl, s.2, refl)
      ]

  pub section_takes : {A : Type 0} (id : ℕ) (absent : A) (P : List ℕ → A → Type 0) (x : A) (Q : List ℕ → Type 0) (read : Reader A) → Reads P read → (bytes rest : List ℕ) → section_at id absent read bytes ≡ Some (x, rest) → Q rest → HasSection (IsSection id absent P x) Q bytes
  unfolding section_at
  section_takes {A} id absent P x Q read laws bytes rest e follow =
      let a = bind_some _ _ _ e in
      let b = bind_some _ _ _ a.2 in
      let is = some_is (b.0, a.0.1) (x, rest) b.2 in
      let c = contents_take id bytes a.0.0 a.0.1 a.1 in
      let found : contents_value absent read a.0.0 ≡ Some x = b.1 ∙ ap (λ (y : A × List ℕ). Some y.0) is in
      let behind : a.0.1 ≡ rest = ap (λ (y : A × List ℕ). y.1) is in
      record {
        customs = c.0;
        section = c.1;
        others = rest;
        parts = c.2 ∙ ap (λ (r : List ℕ). (c.0 ++ c.1) ++ r) behind;
        are_customs = c.3;
        is_section = value_takes id absent P x read laws c.1 a.0.0 c.4 found;
        follow = follow;
      }
