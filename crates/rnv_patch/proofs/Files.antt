-- The diff of a file, put together.
use Rattle.std.proofs.Common.{◌≡◌, ◌≢◌, ◌∙◌, ℕ, Bool, true, false, List, [], ◌∷◌, ◌++◌, None, Some, codes, refl, sym, ap, append_assoc}
use Rattle.std.specs.List.{concat}
use Rattle.std.proofs.lemmas.List.{append-nil}
use Rattle.rnv_patch.specs.Diff.{Hunk}
use Rattle.rnv_patch.specs.Hunks.{AddHunks, AreHunks}
use Rattle.rnv_patch.specs.Lines.{lines}
use Rattle.rnv_patch.specs.Written.{hunks_text}
use Rattle.rnv_patch.specs.File.{AddDiff, body_text, diff_text, git_line, name_lines}
use Rattle.rnv_patch.proofs.FirstLine.{lines_make}

same_texts : (old new : List ℕ) → lines old ≡ lines new → old ≡ new
same_texts old new e = sym (lines_make old) ∙ ap (λ (ls : List (List ℕ)). concat ls) e ∙ lines_make new

-- where the texts differ there are hunks
filled : (old new : List ℕ) (is_new : Bool) (path : List ℕ) (hunks : List Hunk) → old ≢ new → AreHunks (lines old) (lines new) hunks
    → name_lines is_new path ++ hunks_text hunks ≡ body_text is_new path hunks
filled old new is_new path [] differ are = absurd (differ (same_texts old new are.take))
filled old new is_new path (h ∷ hunks) differ are = refl

pub changed : (path old new out o1 o2 o3 : List ℕ) → old ≢ new → o1 ≡ out ++ git_line path → o2 ≡ o1 ++ name_lines false path
    → AddHunks (lines old) (lines new) o2 o3 → AddDiff path (Some old) new out o3
unfolding diff_text
changed path old new out o1 o2 o3 differ e1 e2 add = record {
  diff = record { path = path; is_new = false; hunks = add.hunks };
  is = record { path_is = refl; is_new = refl; hunks = add.are };
  text = add.text ∙ ap (λ t. t ++ hunks_text add.hunks) (e2 ∙ ap (λ t. t ++ name_lines false path) e1)
      ∙ append_assoc (out ++ git_line path) (name_lines false path) (hunks_text add.hunks)
      ∙ append_assoc out (git_line path) (name_lines false path ++ hunks_text add.hunks)
      ∙ ap (λ t. out ++ (git_line path ++ t)) (filled old new false path add.hunks differ add.are);
}

pub made : (path new out o1 o2 o3 o4 : List ℕ) → new ≢ [] → o1 ≡ out ++ git_line path → o2 ≡ o1 ++ codes "new file mode 100644\n"
    → o3 ≡ o2 ++ name_lines true path → AddHunks [] (lines new) o3 o4 → AddDiff path None new out o4
unfolding diff_text
made path new out o1 o2 o3 o4 differ e1 e2 e3 add = record {
  diff = record { path = path; is_new = true; hunks = add.hunks };
  is = record { path_is = refl; is_new = refl; hunks = add.are };
  text = add.text ∙ ap (λ t. t ++ hunks_text add.hunks) (e3 ∙ ap (λ t. t ++ name_lines true path) (e2 ∙ ap (λ t. t ++ codes "new file mode 100644\n") e1))
      ∙ append_assoc ((out ++ git_line path) ++ codes "new file mode 100644\n") (name_lines true path) (hunks_text add.hunks)
      ∙ append_assoc (out ++ git_line path) (codes "new file mode 100644\n") (name_lines true path ++ hunks_text add.hunks)
      ∙ append_assoc out (git_line path) (codes "new file mode 100644\n" ++ (name_lines true path ++ hunks_text add.hunks))
      ∙ ap (λ t. out ++ (git_line path ++ (codes "new file mode 100644\n" ++ t))) (filled [] new true path add.hunks (λ e. differ (sym e)) add.are);
}

pub empty : (path out o1 o2 : List ℕ) → o1 ≡ out ++ git_line path → o2 ≡ o1 ++ codes "new file mode 100644\n" → AddDiff path None [] out o2
unfolding diff_text
empty path out o1 o2 e1 e2 = record {
  diff = record { path = path; is_new = true; hunks = [] };
  is = record { path_is = refl; is_new = refl; hunks = record { take = refl; short = tt } };
  text = e2 ∙ ap (λ t. t ++ codes "new file mode 100644\n") e1 ∙ append_assoc out (git_line path) (codes "new file mode 100644\n")
      ∙ ap (λ t. out ++ (git_line path ++ t)) (sym (append-nil (codes "new file mode 100644\n")));
}
