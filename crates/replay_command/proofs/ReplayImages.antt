-- The images that a replay makes, one process after the other.
use Rattle.std.proofs.Common.{◌≡◌, ◌∙◌, ◌++◌, ℕ, List, [], ◌∷◌, true, Option, refl, ap, append_assoc, append-nil, subst, sym}
use Rattle.std.specs.Prelude.{All}
use Rattle.std.proofs.lemmas.List.Elements.{All-head, All-tail}
use Rattle.fri_outside.specs.Outside.{Folder}
use Rattle.fri_outside.specs.Several.{AreFirstMade, with_files}
use Rattle.call_log.specs.Head.{Head, IsHead}
use Rattle.fri_text.specs.Name.{is_name}
use Rattle.process_files.specs.FirstLaws.{first_after, first_of_more}
use Rattle.process_files.specs.Images.{image_files}
use Rattle.proc_replay.specs.Replaying.{Replaying}
use Rattle.group_state.specs.declared.image.Image.{Image}
use Rattle.group_state.specs.declared.report.Report.{Report}
use Rattle.group_state.specs.Image.{image_of, memory_of_image, print_of_image}
use Rattle.group_state.specs.Report.{IsReport, Reporting, reporting}
use Rattle.command_run.specs.FileLaws.{all_first_made, with_more_files}
use Rattle.replay_command.specs.Report.{images_in}
use Rattle.replay_command.specs.inside.Reporting.{SaysSame}

-- the two files of a process
abbrev pub files_of : Replaying → List (List ℕ × List ℕ)
files_of r = image_files r.head.name (memory_of_image r) (print_of_image r)

-- the files that are made of it are its own
pub own_files : (r : Replaying) (head : Head) (memory printed : List ℕ) (image : Image) → head ≡ r.head → image ≡ image_of r → memory ≡ image.memory → printed ≡ image.printed → image_files head.name memory printed ≡ files_of r
own_files r head memory printed image headed leaves has prints =
    ap (λ (h : Head). image_files h.name memory printed) headed
    ∙ ap (λ (memory : List ℕ). image_files r.head.name memory printed) (has ∙ ap (λ (i : Image). i.memory) leaves)
    ∙ ap (λ (printed : List ℕ). image_files r.head.name (memory_of_image r) printed) (prints ∙ ap (λ (i : Image). i.printed) leaves)

images_in_both : (rs ss : List Replaying) → images_in (rs ++ ss) ≡ images_in rs ++ images_in ss
images_in_both [] ss = refl
images_in_both (r ∷ rs) ss = ap (λ (files : List (List ℕ × List ℕ)). files_of r ++ files) (images_in_both rs ss) ∙ sym (append_assoc (files_of r) (images_in rs) (images_in ss))

-- the images of all replays but these, the last of all, are made, and what is said of all is the same
pub record AreMade (begun : Reporting) (before : Option Folder) (at : Reporting) (now : Option Folder) : Type 0 where
  pub first : List Replaying
  pub all_are : begun.left ≡ first ++ at.left
  pub made : now ≡ with_files (images_in first) before
  pub heads : All (λ r. IsHead r.head) at.left
  pub same : SaysSame begun at

pub none_made : (begun : Reporting) (before : Option Folder) → All (λ r. IsHead r.head) begun.left → AreMade begun before begun before
none_made begun before heads = record { first = []; all_are = refl; made = refl; heads = heads; same = record { lines = refl; counts = refl } }

-- one more was replayed
module _ (begun old new : Reporting) (before mid : Option Folder) (r : Replaying) (k : AreMade begun before old mid) (next : old ≡ record new { left = r ∷ new.left }) where
  left_is : old.left ≡ r ∷ new.left
  left_is = ap (λ (o : Reporting). o.left) next

  heads_were : All (λ r. IsHead r.head) (r ∷ new.left)
  heads_were = subst (All (λ r. IsHead r.head)) left_is k.heads

  pub named : (head : Head) → head ≡ r.head → is_name head.name ≡ true
  named head is = ap (λ (h : Head). is_name h.name) is ∙ (All-head (λ r. IsHead r.head) r new.left heads_were).named

  -- and its files were made
  pub one_made : (files : List (List ℕ × List ℕ)) (after : Option Folder) → files ≡ files_of r → after ≡ with_files files mid → AreMade begun before new after
  one_made files after own made = record {
    first = k.first ++ r ∷ [];
    all_are = k.all_are ∙ ap (λ (rs : List Replaying). k.first ++ rs) left_is ∙ sym (append_assoc k.first (r ∷ []) new.left);
    made = made ∙ ap (λ (f : List (List ℕ × List ℕ)). with_files f mid) own ∙ ap (with_files (files_of r)) k.made ∙ sym (with_more_files (images_in k.first) (files_of r) before)
        ∙ ap (λ (f : List (List ℕ × List ℕ)). with_files (images_in k.first ++ f) before) (sym (append-nil (files_of r)))
        ∙ ap (λ (f : List (List ℕ × List ℕ)). with_files f before) (sym (images_in_both k.first (r ∷ [])));
    heads = All-tail (λ r. IsHead r.head) r new.left heads_were;
    same = record {
      lines = sym (ap (λ (o : Reporting). o.lines) next) ∙ k.same.lines;
      counts = sym (ap (λ (o : Reporting). o.counts) next) ∙ k.same.counts;
    };
  }

  -- or the first of them
  pub part_made : (files : List (List ℕ × List ℕ)) (after : Option Folder) → files ≡ files_of r → AreFirstMade files mid after → AreFirstMade (images_in begun.left) before after
  part_made files after own made =
      let mine = subst (λ (f : List (List ℕ × List ℕ)). AreFirstMade f mid after) own made in
      subst (λ (f : List (List ℕ × List ℕ)). AreFirstMade f before after) (sym (ap images_in (k.all_are ∙ ap (λ (rs : List Replaying). k.first ++ rs) left_is) ∙ images_in_both k.first (r ∷ new.left)))
      (first_after (images_in k.first) (files_of r ++ images_in new.left) before mid after k.made
      (first_of_more (files_of r) (images_in new.left) mid after mine))

-- those of the first processes alone
pub first_made : (begun at : Reporting) (before mid : Option Folder) → AreMade begun before at mid → AreFirstMade (images_in begun.left) before mid
first_made begun at before mid k =
    subst (λ (f : List (List ℕ × List ℕ)). AreFirstMade f before mid) (sym (ap images_in k.all_are ∙ images_in_both k.first at.left))
    (first_of_more (images_in k.first) (images_in at.left) before mid (all_first_made (images_in k.first) before mid k.made))

-- no log is left
pub all_made : (begun at : Reporting) (before now : Option Folder) → AreMade begun before at now → at.left ≡ [] → now ≡ with_files (images_in begun.left) before
all_made begun at before now k none =
    k.made ∙ ap (λ (rs : List Replaying). with_files (images_in rs) before) (sym (k.all_are ∙ ap (λ (rs : List Replaying). k.first ++ rs) none ∙ append-nil k.first))

pub all_same : (begun at new : Reporting) (before now : Option Folder) → AreMade begun before at now → new ≡ at → SaysSame begun new
all_same begun at new before now k is = subst (SaysSame begun) (sym is) k.same

-- the report of all logs
pub report_is : (start : List Replaying) (begun at : Reporting) (report : Report) → begun ≡ reporting start → SaysSame begun at → IsReport at report → IsReport (reporting start) report
report_is start begun at report is same says = record {
  lines = says.lines ∙ same.lines ∙ ap (λ (r : Reporting). r.lines) is;
  counts = says.counts ∙ same.counts ∙ ap (λ (r : Reporting). r.counts) is;
}
