-- What it is to tick a box of a page.
use Rattle.std.specs.Prelude.{◌≡◌, ℕ, Bool, true, not, List, [], ◌∷◌, ◌++◌, drop, codes}
use Rattle.std.specs.List.{list_all}
use Rattle.rnv_dashboard.specs.declared.item.PageFile.{PageFile}
use Rattle.rnv_dashboard.specs.declared.item.PageItem.{PageItem}
use Rattle.rnv_dashboard.specs.Lines.{spaced, text_of}
use Rattle.rnv_dashboard.specs.Page.{has_box, item_line, page_lines}
use Rattle.rnv_dashboard.specs.Ticks.{is_space, ticks}

-- a line that begins with an empty box, with an `x` in that box
abbrev pub ticked : List ℕ → List ℕ
ticked line = codes "- [x]" ++ drop 5 line

abbrev pub is_spaceless : List ℕ → Bool
is_spaceless text = list_all (λ b. not (is_space b)) text

-- of a page with the box of one item ticked, the ticks are that item's branch alone
abbrev pub TicksItem : Type 0
TicksItem = (items : List PageItem) (found : List PageFile) (warnings : List (List ℕ)) (i : PageItem) (before after : List (List ℕ))
    → page_lines items found warnings ≡ before ++ item_line i ∷ after → has_box i.section ≡ true → is_spaceless (spaced i.branch) ≡ true
    → ticks (text_of (before ++ ticked (item_line i) ∷ after)) ≡ spaced i.branch ∷ []
