-- What is computed of the tokens of a line is the command that they spell, or the token at which they stop to begin one.
use Rattle.std.proofs.Common.{◌≡◌, ◌↔◌, ℕ, zero, suc, ◌+◌, ◌<◌, ◌≤◌, Bool, true, false, ◌&&◌, cond, nat_le, nat_lt, List, [], ◌∷◌, ◌++◌, length, take, drop, Option, Some, None, Result, Ok, Err, bytes_eq, codes, inl, inr, refl, sym, ap, ◌∙◌, subst, append_assoc, arith}
use Rattle.std.proofs.lemmas.Bool.Decides.{leb_tells}
use Rattle.std.proofs.lemmas.List.{take-append-drop}
use Rattle.std.specs.Char.{is_ascii_hexdigit}
use Rattle.std.specs.List.{find, list_all}
use Rattle.std.specs.Prelude.{option_map}
use Rattle.std.specs.Str.Parse.{digits_value}
use Rattle.fri_text.specs.Decimal.{decimal_of}
use Rattle.call_table.specs.Table.{kind_named, row}
use Rattle.call_table.specs.declared.kind.Kind.{Kind}
use Rattle.expression_text.specs.Laws.{ExactReading}
use Rattle.expression_text.specs.Spelling.{number_at_most, hex_number_of, is_word, most_number, number_of}
use Rattle.point_programs.specs.Laws.{ExactPrograms}
use Rattle.point_programs.specs.Reading.{word_of}
use Rattle.shell_lines.specs.declared.command.Verb.{Verb}
use Rattle.shell_lines.specs.declared.command.Verb.TheVariants as verb
use Rattle.shell_lines.specs.Grammar.{IsCommand, BeginsCommand, StopsAtToken, goto, step_once, step, back_once, back, print, mem, threads, frames, last_events, events, watch, break, delete, attach, list, set, vars, continue, continue_most, rcontinue, quit, IsScope, one_node, everywhere, AreCalls, of_kind, all}
use Rattle.shell_lines.specs.Laws.{ExactCommands}
use Rattle.shell_lines.specs.Lines.{At, Back, Break, LineCommand, Continue, Delete, Do, Events, Everywhere, Frames, Goto, ListPoints, ListVariables, Mem, Print, Quit, Rcontinue, WhichNodes, SetTo, Step, Threads, calls_named, command_of_verb, command_spelled, condition_from, ends_at, expression_from, node_called, node_named, number_from, number_in_range, program_from, scope_named, sign_of, then_takes, token_at, verb_of, verb_word, verbs}
use Rattle.shell_lines.proofs.TokenForms.{Ends, Form, Stop, Then, Tokens, as_form, ends_form, then_form}
use Rattle.shell_lines.proofs.CommandParts.{Body, Conditioned, Count, Value, body_form, condition_form, count_form, count_or_form, passed, same_bytes, sign_is, value_form}
use Rattle.shell_lines.proofs.WatchForms.{Watched, watch_form}

-- ---- numbers

either_small : (b : Bool) (o p : Option ℕ) (n most : ℕ) → (o ≡ Some n → n ≤ most) → (p ≡ Some n → n ≤ most) → cond b o p ≡ Some n → n ≤ most
either_small true o p n most h k e = h e
either_small false o p n most h k e = k e

no_number : (n most : ℕ) → ◌≡◌ {A = Option ℕ} None (Some n) → n ≤ most
no_number n most e = absurd cc

at_most_small : (most : ℕ) (o : Option ℕ) (n : ℕ) → number_at_most most o ≡ Some n → n ≤ most
at_most_small most None n e = absurd cc
at_most_small most (Some m) n e = elim (leb_tells m most) [
  | inl t ↦
      let there : ◌≡◌ {A = Option ℕ} (Some m) (Some n) = sym (ap (λ (b : Bool). cond b (Some m) None) t.0) ∙ e in
      let same : m ≡ n = cc in
      omega (arith, t.1, same)
  | inr f ↦ let never : ◌≡◌ {A = Option ℕ} None (Some n) = sym (ap (λ (b : Bool). cond b (Some m) None) f.0) ∙ e in absurd cc
]

number_small : (word : List ℕ) (n : ℕ) → number_of word ≡ Some n → n ≤ most_number
unfolding number_of
number_small word n e =
    let digits = drop 2 word in
    let value : Option ℕ = Some (digits_value 16 digits) in
    either_small (bytes_eq (take 2 word) (codes "0x")) (hex_number_of digits) (number_at_most most_number (decimal_of word)) n most_number
    (either_small (nat_lt 0 (length digits) && list_all is_ascii_hexdigit digits) (number_at_most most_number value) None n most_number (at_most_small most_number value n) (no_number n most_number))
    (at_most_small most_number (decimal_of word) n) e

in_range : (least most : ℕ) (o : Option ℕ) (n : ℕ) → number_in_range least most o ≡ Some n → (o ≡ Some n) × (least ≤ n) × (n ≤ most)
in_range least most None n e = absurd cc
in_range least most (Some m) n e = by (nat_le least m) (nat_le m most) refl refl e
  where
    none : ◌≡◌ {A = Option ℕ} None (Some n) → (◌≡◌ {A = Option ℕ} (Some m) (Some n)) × (least ≤ n) × (n ≤ most)
    none e = absurd cc

    by : (a b : Bool) → nat_le least m ≡ a → nat_le m most ≡ b → cond (a && b) (Some m) None ≡ Some n → (◌≡◌ {A = Option ℕ} (Some m) (Some n)) × (least ≤ n) × (n ≤ most)
    by true true ea eb e =
        let same : m ≡ n = cc in
        (e, elim (leb_tells least m) [ inl t ↦ omega (arith, t.1, same) | inr f ↦ absurd cc ], elim (leb_tells m most) [ inl t ↦ omega (arith, t.1, same) | inr f ↦ absurd cc ])
    by true false ea eb e = none e
    by false b ea eb e = none e

within_range : (least most n : ℕ) → least ≤ n → n ≤ most → number_in_range least most (Some n) ≡ Some n
within_range least most n low high = elim (leb_tells least n) [
  | inl t ↦ elim (leb_tells n most) [
    | inl u ↦ ap (λ (b : Bool). cond (b && nat_le n most) (Some n) None) t.0 ∙ ap (λ (b : Bool). cond b (Some n) None) u.0
    | inr u ↦ absurd (omega (arith, u.1, high))
  ]
  | inr t ↦ absurd (omega (arith, t.1, low))
]

number_again : (least most : ℕ) (word : List ℕ) (n : ℕ) → number_of word ≡ Some n → least ≤ n → n ≤ most → number_from least most word ≡ Some n
number_again least most word n e low high = ap (number_in_range least most) e ∙ within_range least most n low high

any_number : (word : List ℕ) (n : ℕ) → number_of word ≡ Some n → number_from 0 most_number word ≡ Some n
any_number word n e = number_again 0 most_number word n e (omega arith) (number_small word n e)

zero_word : number_of (codes "0") ≡ Some 0
unfolding number_of
zero_word = refl

one_word : number_of (codes "1") ≡ Some 1
unfolding number_of
one_word = refl

-- ---- words

passes_by : {X : Type 0} (test : X → Bool) (first x : X) (rest : Option X) → (rest ≡ Some x → test x ≡ true) → (b : Bool) → test first ≡ b → cond b (Some first) rest ≡ Some x → test x ≡ true
passes_by test first x rest later true is e = let same : first ≡ x = cc in ap test (sym same) ∙ is
passes_by test first x rest later false is e = later e

found_passes : {X : Type 0} (test : X → Bool) (xs : List X) (x : X) → find test xs ≡ Some x → test x ≡ true
found_passes test [] x e = absurd cc
found_passes test (first ∷ xs) x e = passes_by test first x (find test xs) (found_passes test xs x) (test first) refl e

verb_is : (text : List ℕ) (v : Verb) → verb_of text ≡ Some v → verb_word v ≡ text
unfolding verb_of
verb_is text v e = same_bytes (verb_word v) text (found_passes (λ v. bytes_eq (verb_word v) text) verbs v e)

verb_again : (v : Verb) → verb_of (verb_word v) ≡ Some v
unfolding verb_of
verb_again verb.Goto = refl
verb_again verb.Step = refl
verb_again verb.Back = refl
verb_again verb.Print = refl
verb_again verb.Mem = refl
verb_again verb.Threads = refl
verb_again verb.Frames = refl
verb_again verb.Events = refl
verb_again verb.Watch = refl
verb_again verb.Break = refl
verb_again verb.Delete = refl
verb_again verb.Do = refl
verb_again verb.List = refl
verb_again verb.Set = refl
verb_again verb.Vars = refl
verb_again verb.Continue = refl
verb_again verb.Rcontinue = refl
verb_again verb.Quit = refl

word_is : (text name : List ℕ) → word_of text ≡ Some name → (is_word text ≡ true) × (text ≡ name)
word_is text name e = passed (is_word text) text name e

word_again : (name : List ℕ) → is_word name ≡ true → word_of name ≡ Some name
word_again name e = ap (λ (b : Bool). cond b (Some name) None) e

module _ (names : Tokens) where
  node_is : (text : List ℕ) (node : Option ℕ) → node_named names text ≡ Some node → (is_word text ≡ true) × (node_called names text ≡ node)
  node_is text node e = passed (is_word text) (node_called names text) node e

  node_again : (text : List ℕ) → is_word text ≡ true → node_named names text ≡ Some (node_called names text)
  node_again text e = ap (λ (b : Bool). cond b (Some (node_called names text)) None) e

  mapped : (o : Option (Option ℕ)) (s : WhichNodes) → option_map At o ≡ Some s → (node : Option ℕ) × (o ≡ Some node) × (At node ≡ s)
  mapped None s e = absurd cc
  mapped (Some node) s e = (node, refl, cc)

  scope_is : (text : List ℕ) (s : WhichNodes) → scope_named names text ≡ Some s → IsScope names text s
  scope_is text s e = by (bytes_eq text (codes "*")) refl e
    where
      by : (b : Bool) → bytes_eq text (codes "*") ≡ b → cond b (Some Everywhere) (option_map At (node_named names text)) ≡ Some s → IsScope names text s
      by true star e =
          let all : Everywhere ≡ s = cc in
          subst (λ (p : WhichNodes). IsScope names text p) all (subst (λ (t : List ℕ). IsScope names t Everywhere) (sym (same_bytes text (codes "*") star)) everywhere)
      by false star e =
          let m = mapped (node_named names text) s e in
          let n = node_is text m.0 m.1 in
          subst (λ (p : WhichNodes). IsScope names text p) (ap At n.1 ∙ m.2) (one_node text n.0)

  word_scope : (text : List ℕ) → is_word text ≡ true → scope_named names text ≡ Some (At (node_called names text))
  word_scope text e = by (bytes_eq text (codes "*")) refl
    where
      by : (b : Bool) → bytes_eq text (codes "*") ≡ b → cond b (Some Everywhere) (option_map At (node_named names text)) ≡ Some (At (node_called names text))
      by true star = let never : ◌≡◌ {A = Bool} false true = sym (ap is_word (same_bytes text (codes "*") star)) ∙ e in absurd cc
      by false star = ap (λ (o : Option (Option ℕ)). option_map At o) (node_again text e)

  scope_again : (text : List ℕ) (s : WhichNodes) → IsScope names text s → scope_named names text ≡ Some s
  scope_again text s (one_node word is) = word_scope word is
  scope_again text s everywhere = refl

-- ---- calls

no_star : kind_named (codes "*") ≡ None
unfolding kind_named
no_star = refl

module _ (kinds : (kind : Kind) (name : List ℕ) → (kind_named name ≡ Some kind) ↔ ((row kind).name ≡ name)) where
  each_kind : (text : List ℕ) (o : Option Kind) (calls : Option Kind) → kind_named text ≡ o → option_map (λ kind. Some kind) o ≡ Some calls → AreCalls text calls
  each_kind text None calls is e = absurd cc
  each_kind text (Some kind) calls is e =
      let same : Some kind ≡ calls = cc in
      subst (λ (p : Option Kind). AreCalls text p) same (subst (λ (t : List ℕ). AreCalls t (Some kind)) ((kinds kind text).0 is) (of_kind kind))

  calls_are : (text : List ℕ) (calls : Option Kind) → calls_named text ≡ Some calls → AreCalls text calls
  calls_are text calls e = by (bytes_eq text (codes "*")) refl e
    where
      by : (b : Bool) → bytes_eq text (codes "*") ≡ b → cond b (Some None) (option_map (λ kind. Some kind) (kind_named text)) ≡ Some calls → AreCalls text calls
      by true star e =
          let same : None ≡ calls = cc in
          subst (λ (p : Option Kind). AreCalls text p) same (subst (λ (t : List ℕ). AreCalls t None) (sym (same_bytes text (codes "*") star)) all)
      by false star e = each_kind text (kind_named text) calls refl e

  kind_again : (kind : Kind) → calls_named (row kind).name ≡ Some (Some kind)
  kind_again kind = by (bytes_eq (row kind).name (codes "*")) refl
    where
      named : kind_named (row kind).name ≡ Some kind
      named = (kinds kind (row kind).name).1 refl

      by : (b : Bool) → bytes_eq (row kind).name (codes "*") ≡ b → cond b (Some None) (option_map (λ kind. Some kind) (kind_named (row kind).name)) ≡ Some (Some kind)
      by true star = let never : ◌≡◌ {A = Option Kind} None (Some kind) = sym no_star ∙ sym (ap kind_named (same_bytes (row kind).name (codes "*") star)) ∙ named in absurd cc
      by false star = ap (option_map (λ kind. Some kind)) named

  calls_again : (text : List ℕ) (calls : Option Kind) → AreCalls text calls → calls_named text ≡ Some calls
  calls_again text calls (of_kind kind) = kind_again kind
  calls_again text calls all = refl

-- ---- what follows a verb

abbrev Behind : Tokens → Verb → Tokens → LineCommand → Type 0
Behind names verb.Goto = Then (number_from 0 most_number) (λ k. Ends (Goto k))
Behind names verb.Step = Count 0 most_number (Step 1) Step
Behind names verb.Back = Count 0 most_number (Back 1) Back
Behind names verb.Print = Value names Print
Behind names verb.Mem = Then (node_named names) (λ node. Then (number_from 0 most_number) (λ addr. Then (number_from 1 256) (λ len. Ends (Mem node addr len))))
Behind names verb.Threads = Then (node_named names) (λ node. Ends (Threads node))
Behind names verb.Frames = Then (node_named names) (λ node. Then (number_from 0 63) (λ t. Ends (Frames node t)))
Behind names verb.Events = Count 1 1000 (Events 10) Events
Behind names verb.Watch = Watched names
Behind names verb.Break = Then (scope_named names) (λ scope. Then calls_named (λ kind. Conditioned names (Break scope kind)))
Behind names verb.Delete = Then (number_from 0 most_number) (λ n. Ends (Delete n))
Behind names verb.Do = Then (number_from 0 most_number) (λ n. Body names (Do n))
Behind names verb.List = Ends ListPoints
Behind names verb.Set = Then (sign_of (codes "$")) (λ _. Then word_of (λ name. Value names (SetTo name)))
Behind names verb.Vars = Ends ListVariables
Behind names verb.Continue = Count 1 most_number (Continue None) (λ n. Continue (Some n))
Behind names verb.Rcontinue = Ends Rcontinue
Behind names verb.Quit = Ends Quit

nested : {A B C : Type 0} (r : Result A ℕ) (g : A → Result B ℕ) (h : B → Result C ℕ) → then_takes (then_takes r g) h ≡ then_takes r (λ a. then_takes (g a) h)
nested (Ok a) g h = refl
nested (Err n) g h = refl

-- a number, and no token more
number_form : (command : ℕ → LineCommand) → Form 1 (λ ts. then_takes (token_at (number_from 0 most_number) ts 1) (λ n. ends_at ts 2 (command n))) (Then (number_from 0 most_number) (λ n. Ends (command n)))
number_form command =
    then_form ℕ (number_from 0 most_number) (λ n ts. ends_at ts 2 (command n)) 1 (λ n. Ends (command n)) (λ n. ends_form 2 (command n)) (codes "0") 0 (any_number (codes "0") 0 zero_word)

module _ (reading : ExactReading) (programs : ExactPrograms) (kinds : (kind : Kind) (name : List ℕ) → (kind_named name ≡ Some kind) ↔ ((row kind).name ≡ name)) (names : Tokens) where
  abbrev range : Option ℕ → ℕ → ℕ → Tokens → LineCommand → Type 0
  range node addr len = Ends (Mem node addr len)

  mem_form : Form 1 (λ ts. command_of_verb names ts verb.Mem) (Behind names verb.Mem)
  mem_form =
      then_form (Option ℕ) (node_named names)
      (λ node ts. then_takes (token_at (number_from 0 most_number) ts 2) (λ addr. then_takes (token_at (number_from 1 256) ts 3) (λ len. ends_at ts 4 (Mem node addr len))))
      1 (λ node. Then (number_from 0 most_number) (λ addr. Then (number_from 1 256) (λ len. Ends (Mem node addr len))))
      (λ node. then_form ℕ (number_from 0 most_number) (λ addr ts. then_takes (token_at (number_from 1 256) ts 3) (λ len. ends_at ts 4 (Mem node addr len)))
      2 (λ addr. Then (number_from 1 256) (λ len. Ends (Mem node addr len)))
      (λ addr. then_form ℕ (number_from 1 256) (λ len ts. ends_at ts 4 (Mem node addr len)) 3 (λ len. Ends (Mem node addr len)) (λ len. ends_form 4 (Mem node addr len))
      (codes "1") 1 (number_again 1 256 (codes "1") 1 one_word (omega arith) (omega arith)))
      (codes "0") 0 (any_number (codes "0") 0 zero_word))
      (codes "a") (node_called names (codes "a")) refl

  frames_form : Form 1 (λ ts. command_of_verb names ts verb.Frames) (Behind names verb.Frames)
  frames_form =
      then_form (Option ℕ) (node_named names) (λ node ts. then_takes (token_at (number_from 0 63) ts 2) (λ t. ends_at ts 3 (Frames node t)))
      1 (λ node. Then (number_from 0 63) (λ t. Ends (Frames node t)))
      (λ node. then_form ℕ (number_from 0 63) (λ t ts. ends_at ts 3 (Frames node t)) 2 (λ t. Ends (Frames node t)) (λ t. ends_form 3 (Frames node t))
      (codes "0") 0 (number_again 0 63 (codes "0") 0 zero_word (omega arith) (omega arith)))
      (codes "a") (node_called names (codes "a")) refl

  break_form : Form 1 (λ ts. command_of_verb names ts verb.Break) (Behind names verb.Break)
  break_form =
      then_form WhichNodes (scope_named names) (λ scope ts. then_takes (token_at calls_named ts 2) (λ kind. then_takes (condition_from names ts 3) (λ c. Ok (Break scope kind c))))
      1 (λ scope. Then calls_named (λ kind. Conditioned names (Break scope kind)))
      (λ scope. then_form (Option Kind) calls_named (λ kind ts. then_takes (condition_from names ts 3) (λ c. Ok (Break scope kind c))) 2 (λ kind. Conditioned names (Break scope kind))
      (λ kind. condition_form reading names 3 (Break scope kind)) (codes "*") None refl)
      (codes "*") Everywhere refl

  set_form : Form 1 (λ ts. command_of_verb names ts verb.Set) (Behind names verb.Set)
  set_form =
      as_form (λ ts. command_of_verb names ts verb.Set)
      (λ ts. nested (token_at (sign_of (codes "$")) ts 1) (λ _. token_at word_of ts 2) (λ name. then_takes (expression_from names ts 3) (λ x. Ok (SetTo name x))))
      (then_form (List ℕ) (sign_of (codes "$")) (λ _ ts. then_takes (token_at word_of ts 2) (λ name. then_takes (expression_from names ts 3) (λ x. Ok (SetTo name x))))
      1 (λ _. Then word_of (λ name. Value names (SetTo name)))
      (λ _. then_form (List ℕ) word_of (λ name ts. then_takes (expression_from names ts 3) (λ x. Ok (SetTo name x))) 2 (λ name. Value names (SetTo name))
      (λ name. value_form reading names 3 (SetTo name)) (codes "a") (codes "a") refl)
      (codes "$") (codes "$") refl)

  verb_form : (v : Verb) → Form 1 (λ ts. command_of_verb names ts v) (Behind names v)
  verb_form verb.Goto = number_form Goto
  verb_form verb.Step = count_or_form 0 most_number 1 Step (codes "0") 0 (any_number (codes "0") 0 zero_word)
  verb_form verb.Back = count_or_form 0 most_number 1 Back (codes "0") 0 (any_number (codes "0") 0 zero_word)
  verb_form verb.Print = value_form reading names 1 Print
  verb_form verb.Mem = mem_form
  verb_form verb.Threads = then_form (Option ℕ) (node_named names) (λ node ts. ends_at ts 2 (Threads node)) 1 (λ node. Ends (Threads node)) (λ node. ends_form 2 (Threads node)) (codes "a") (node_called names (codes "a")) refl
  verb_form verb.Frames = frames_form
  verb_form verb.Events = count_or_form 1 1000 10 Events (codes "1") 1 (number_again 1 1000 (codes "1") 1 one_word (omega arith) (omega arith))
  verb_form verb.Watch = watch_form reading names
  verb_form verb.Break = break_form
  verb_form verb.Delete = number_form Delete
  verb_form verb.Do =
      then_form ℕ (number_from 0 most_number) (λ n ts. then_takes (program_from names ts 2) (λ p. Ok (Do n p))) 1 (λ n. Body names (Do n)) (λ n. body_form programs names 2 (Do n))
      (codes "0") 0 (any_number (codes "0") 0 zero_word)
  verb_form verb.List = ends_form 1 ListPoints
  verb_form verb.Set = set_form
  verb_form verb.Vars = ends_form 1 ListVariables
  verb_form verb.Continue = count_form 1 most_number (Continue None) (λ n. Continue (Some n)) (codes "1") 1 (number_again 1 most_number (codes "1") 1 one_word (omega arith) (omega arith))
  verb_form verb.Rcontinue = ends_form 1 Rcontinue
  verb_form verb.Quit = ends_form 1 Quit

  abbrev Whole : Tokens → LineCommand → Type 0
  Whole = Then verb_of (Behind names)

  whole_form : Form 0 (λ ts. command_spelled names ts) Whole
  whole_form = then_form Verb verb_of (λ v ts. command_of_verb names ts v) 0 (Behind names) verb_form (verb_word verb.List) verb.List (verb_again verb.List)

  -- ---- these are the commands of the grammar

  read_as : {ts : Tokens} {c d : LineCommand} → IsCommand names ts c → c ≡ d → IsCommand names ts d
  read_as {ts} h e = subst (λ (c : LineCommand). IsCommand names ts c) e h

  any : (word : List ℕ) (n : ℕ) → number_from 0 most_number word ≡ Some n → number_of word ≡ Some n
  any word n e = (in_range 0 most_number (number_of word) n e).0

  spelled_by : (v : Verb) (rest : Tokens) (c : LineCommand) → Behind names v rest c → IsCommand names (verb_word v ∷ rest) c
  spelled_by verb.Goto [] c h = absurd h
  spelled_by verb.Goto (w ∷ []) c h = read_as (goto w h.0 (any w h.0 h.1)) h.2
  spelled_by verb.Goto (w ∷ (t ∷ rest)) c h = absurd h.2
  spelled_by verb.Step [] c h = read_as step_once h
  spelled_by verb.Step (w ∷ []) c h = read_as (step w h.0 (any w h.0 h.1)) h.2
  spelled_by verb.Step (w ∷ (t ∷ rest)) c h = absurd h.2
  spelled_by verb.Back [] c h = read_as back_once h
  spelled_by verb.Back (w ∷ []) c h = read_as (back w h.0 (any w h.0 h.1)) h.2
  spelled_by verb.Back (w ∷ (t ∷ rest)) c h = absurd h.2
  spelled_by verb.Print rest c h = read_as (print h.1) h.2
  spelled_by verb.Mem [] c h = absurd h
  spelled_by verb.Mem (a ∷ []) c h = absurd h.2
  spelled_by verb.Mem (a ∷ (b ∷ [])) c h = absurd h.2.2
  spelled_by verb.Mem (a ∷ (b ∷ (d ∷ []))) c h =
      let node = node_is names a h.0 h.1 in
      let len = in_range 1 256 (number_of d) h.2.2.0 h.2.2.1 in
      read_as (mem a b d h.2.0 h.2.2.0 node.0 (any b h.2.0 h.2.1) len.0 len.1 len.2) (ap (λ (n : Option ℕ). Mem n h.2.0 h.2.2.0) node.1 ∙ h.2.2.2)
  spelled_by verb.Mem (a ∷ (b ∷ (d ∷ (t ∷ rest)))) c h = absurd h.2.2.2
  spelled_by verb.Threads [] c h = absurd h
  spelled_by verb.Threads (a ∷ []) c h = let node = node_is names a h.0 h.1 in read_as (threads a node.0) (ap Threads node.1 ∙ h.2)
  spelled_by verb.Threads (a ∷ (t ∷ rest)) c h = absurd h.2
  spelled_by verb.Frames [] c h = absurd h
  spelled_by verb.Frames (a ∷ []) c h = absurd h.2
  spelled_by verb.Frames (a ∷ (b ∷ [])) c h =
      let node = node_is names a h.0 h.1 in
      let t = in_range 0 63 (number_of b) h.2.0 h.2.1 in
      read_as (frames a b h.2.0 node.0 t.0 t.2) (ap (λ (n : Option ℕ). Frames n h.2.0) node.1 ∙ h.2.2)
  spelled_by verb.Frames (a ∷ (b ∷ (t ∷ rest))) c h = absurd h.2.2
  spelled_by verb.Events [] c h = read_as last_events h
  spelled_by verb.Events (w ∷ []) c h = let n = in_range 1 1000 (number_of w) h.0 h.1 in read_as (events w h.0 n.0 n.1 n.2) h.2
  spelled_by verb.Events (w ∷ (t ∷ rest)) c h = absurd h.2
  spelled_by verb.Watch rest c h = subst (λ (us : Tokens). IsCommand names (codes "watch" ∷ us) c) (sym h.parts) (read_as (watch h.watched h.meets) h.does)
  spelled_by verb.Break [] c h = absurd h
  spelled_by verb.Break (a ∷ []) c h = absurd h.2
  spelled_by verb.Break (a ∷ (b ∷ rest)) c h = read_as (break (scope_is names a h.0 h.1) (calls_are kinds b h.2.0 h.2.1) h.2.2.1) h.2.2.2
  spelled_by verb.Delete [] c h = absurd h
  spelled_by verb.Delete (w ∷ []) c h = read_as (delete w h.0 (any w h.0 h.1)) h.2
  spelled_by verb.Delete (w ∷ (t ∷ rest)) c h = absurd h.2
  spelled_by verb.Do [] c h = absurd h
  spelled_by verb.Do (w ∷ rest) c h = read_as (attach w h.0 (any w h.0 h.1) h.2.1) h.2.2
  spelled_by verb.List [] c h = read_as list h
  spelled_by verb.List (t ∷ rest) c h = absurd h
  spelled_by verb.Set [] c h = absurd h
  spelled_by verb.Set (s ∷ []) c h = absurd h.2
  spelled_by verb.Set (s ∷ (w ∷ rest)) c h =
      let name = word_is w h.2.0 h.2.1 in
      subst (λ (t : List ℕ). IsCommand names (codes "set" ∷ t ∷ w ∷ rest) c) (sym (sign_is (codes "$") s h.0 h.1))
      (read_as (set w name.0 h.2.2.1) (ap (λ (n : List ℕ). SetTo n h.2.2.0) name.1 ∙ h.2.2.2))
  spelled_by verb.Vars [] c h = read_as vars h
  spelled_by verb.Vars (t ∷ rest) c h = absurd h
  spelled_by verb.Continue [] c h = read_as continue h
  spelled_by verb.Continue (w ∷ []) c h = let n = in_range 1 most_number (number_of w) h.0 h.1 in read_as (continue_most w h.0 n.0 n.1) h.2
  spelled_by verb.Continue (w ∷ (t ∷ rest)) c h = absurd h.2
  spelled_by verb.Rcontinue [] c h = read_as rcontinue h
  spelled_by verb.Rcontinue (t ∷ rest) c h = absurd h
  spelled_by verb.Quit [] c h = read_as quit h
  spelled_by verb.Quit (t ∷ rest) c h = absurd h

  is_command : (ts : Tokens) (c : LineCommand) → Whole ts c → IsCommand names ts c
  is_command [] c h = absurd h
  is_command (t ∷ rest) c h = subst (λ (w : List ℕ). IsCommand names (w ∷ rest) c) (verb_is t h.0 h.1) (spelled_by h.0 rest c h.2)

  is_whole : {ts : Tokens} {c : LineCommand} → IsCommand names ts c → Whole ts c
  is_whole (goto w k e) = (verb.Goto, verb_again verb.Goto, (k, any_number w k e, refl))
  is_whole step_once = (verb.Step, verb_again verb.Step, refl)
  is_whole (step w n e) = (verb.Step, verb_again verb.Step, (n, any_number w n e, refl))
  is_whole back_once = (verb.Back, verb_again verb.Back, refl)
  is_whole (back w n e) = (verb.Back, verb_again verb.Back, (n, any_number w n e, refl))
  is_whole (print {ts} {x} h) = (verb.Print, verb_again verb.Print, (x, h, refl))
  is_whole (mem node from count addr len word e f low high) = (verb.Mem, verb_again verb.Mem, (node_called names node, node_again names node word, (addr, any_number from addr e, (len, number_again 1 256 count len f low high, refl))))
  is_whole (threads node word) = (verb.Threads, verb_again verb.Threads, (node_called names node, node_again names node word, refl))
  is_whole (frames node word t name e high) = (verb.Frames, verb_again verb.Frames, (node_called names node, node_again names node name, (t, number_again 0 63 word t e (omega arith) high, refl)))
  is_whole last_events = (verb.Events, verb_again verb.Events, refl)
  is_whole (events w n e low high) = (verb.Events, verb_again verb.Events, (n, number_again 1 1000 w n e low high, refl))
  is_whole (watch {ts} {us} {x} {c} h i) = (verb.Watch, verb_again verb.Watch, record { front = ts; back = us; x = x; o = c; parts = refl; watched = h; meets = i; does = refl })
  is_whole (break {nodes} {calls} {us} {scope} {kind} {c} h i j) = (verb.Break, verb_again verb.Break, (scope, scope_again names nodes scope h, (kind, calls_again kinds calls kind i, (c, j, refl))))
  is_whole (delete w n e) = (verb.Delete, verb_again verb.Delete, (n, any_number w n e, refl))
  is_whole (attach {ts} {p} w n e h) = (verb.Do, verb_again verb.Do, (n, any_number w n e, (p, h, refl)))
  is_whole list = (verb.List, verb_again verb.List, refl)
  is_whole (set {ts} {x} name word h) = (verb.Set, verb_again verb.Set, (codes "$", refl, (name, word_again name word, (x, h, refl))))
  is_whole vars = (verb.Vars, verb_again verb.Vars, refl)
  is_whole continue = (verb.Continue, verb_again verb.Continue, refl)
  is_whole (continue_most w n e low) = (verb.Continue, verb_again verb.Continue, (n, number_again 1 most_number w n e low (number_small w n e), refl))
  is_whole rcontinue = (verb.Rcontinue, verb_again verb.Rcontinue, refl)
  is_whole quit = (verb.Quit, verb_again verb.Quit, refl)

  -- ---- the laws

  command_is : (ts : Tokens) (c : LineCommand) → command_spelled names ts ≡ Ok c → IsCommand names ts c
  command_is ts c e = is_command ts c (whole_form.spells [] ts c refl e)

  command_again : (ts : Tokens) (c : LineCommand) → IsCommand names ts c → command_spelled names ts ≡ Ok c
  command_again ts c h = whole_form.reads [] ts c refl (is_whole h)

  stopped : (ts : Tokens) (n : ℕ) → command_spelled names ts ≡ Err n → Stop Whole ts n → StopsAtToken names ts n
  stopped ts n e s =
      let one : n + 1 ≡ suc n = omega arith in
      record {
        within = s.within;
        begins = record { rest = s.more; whole = s.whole; spelled = is_command (take n ts ++ s.more) s.whole s.begins };
        longest = λ lt b. s.longest lt b.rest b.whole (is_whole (subst (λ (m : ℕ). IsCommand names (take m ts ++ b.rest) b.whole) one b.spelled));
        none = λ c h. let never : ◌≡◌ {A = Result LineCommand ℕ} (Ok c) (Err n) = sym (command_again ts c h) ∙ e in cc;
      }

  stops_at : (ts : Tokens) (n : ℕ) → command_spelled names ts ≡ Err n → StopsAtToken names ts n
  stops_at ts n e =
      let s = whole_form.stops [] ts n refl e in
      let same : s.0 ≡ n = omega (arith, s.1) in
      stopped ts n e (subst (λ (m : ℕ). Stop Whole ts m) same s.2)

  shorter : (n m : ℕ) (ts : Tokens) → n ≤ m → take n (take m ts) ≡ take n ts
  shorter zero m ts le = refl
  shorter (suc n) zero ts le = absurd (omega (arith, le))
  shorter (suc n) (suc m) [] le = refl
  shorter (suc n) (suc m) (t ∷ ts) le = ap (λ (us : Tokens). t ∷ us) (shorter n m ts (omega (arith, le)))

  -- fewer of the tokens begin some command too
  fewer_begin : (n m : ℕ) (ts : Tokens) → n ≤ m → BeginsCommand names (take m ts) → BeginsCommand names (take n ts)
  fewer_begin n m ts le b =
      let front = take m ts in
      let same : front ++ b.rest ≡ take n ts ++ (drop n front ++ b.rest) =
      ap (λ (us : Tokens). us ++ b.rest) (sym (take-append-drop n front)) ∙ append_assoc (take n front) (drop n front) b.rest
      ∙ ap (λ (us : Tokens). us ++ (drop n front ++ b.rest)) (shorter n m ts le) in
      record { rest = drop n front ++ b.rest; whole = b.whole; spelled = subst (λ (us : Tokens). IsCommand names us b.whole) same b.spelled }

  not_before : (ts : Tokens) (n m : ℕ) → StopsAtToken names ts n → StopsAtToken names ts m → n < m → ⊥
  not_before ts n m h k lt = h.longest (omega (arith, lt, k.within)) (fewer_begin (n + 1) m ts (omega (arith, lt)) k.begins)

  same_token : (ts : Tokens) (n m : ℕ) → StopsAtToken names ts n → StopsAtToken names ts m → m ≡ n
  same_token ts n m h k = elim (leb_tells n m) [
    | inl le ↦ elim (leb_tells m n) [ inl ge ↦ omega (arith, le.1, ge.1) | inr lt ↦ absurd (not_before ts n m h k lt.1) ]
    | inr lt ↦ absurd (not_before ts m n k h lt.1)
  ]

  stops_only : (ts : Tokens) (n : ℕ) (r : Result LineCommand ℕ) → command_spelled names ts ≡ r → StopsAtToken names ts n → r ≡ Err n
  stops_only ts n (Ok c) e h = absurd (h.none c (command_is ts c e))
  stops_only ts n (Err m) e h = ap (λ (k : ℕ). Err k) (same_token ts n m h (stops_at ts m e))

-- what is computed is what the grammar says
pub exact : ExactReading → ExactPrograms → ((kind : Kind) (name : List ℕ) → (kind_named name ≡ Some kind) ↔ ((row kind).name ≡ name)) → ExactCommands
exact reading programs kinds = record {
  commands = λ names ts c. (command_is reading programs kinds names ts c, command_again reading programs kinds names ts c);
  stops = λ names ts n. (stops_at reading programs kinds names ts n, stops_only reading programs kinds names ts n (command_spelled names ts) refl);
}
