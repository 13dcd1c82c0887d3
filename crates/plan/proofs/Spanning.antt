-- A plan's marks are two spanning trees, and a draft whose marks are two spanning trees is a plan.
use Rattle.std.proofs.Common.{◌≡◌, ℕ, ◌<◌, Bool, List, [], ◌∷◌, get_or, is_ok, Ok, Err, Result, sym, refl, ◌∙◌, subst}
use mathlib.Core.HLevel.{is_prop→PathP}
use mathlib.Core.Logic.{∥∥₁_elim}
use base.Stored.{Coded-set, coded_bool, coded_list, coded_ℕ}
use native.Mathlib.Bridge.{le_prop}
use std.HLevel.{Π_prop}
use Rattle.std.proofs.lemmas.Bool.{false≢true}
use Rattle.fault.specs.declared.faults.Fault.{Fault}
use Rattle.lines.proofs.Trails.{Trail, only_route, only_trail}
use Rattle.lines.specs.declared.lines.Line.{Line}
use Rattle.lines.specs.declared.lines.Way.{Way}
use Rattle.lines.specs.Lines.{blank}
use Rattle.lines.specs.Walks.{Walk, Route, OnlyOne}
use Rattle.plan.specs.declared.drafts.Draft.{Draft}
use Rattle.plan.specs.declared.plans.Plan.{Plan}
use Rattle.plan.specs.declared.rules.Rule.{Rule}
use Rattle.plan.specs.Files.{Refused}
use Rattle.plan.specs.Judged.{Kept}
use Rattle.plan.specs.Readers.{ReadPlan, AcceptsTrees}
use Rattle.plan.specs.Rules.{lines_of}
use Rattle.plan.specs.Trees.{Tree, TwoTrees}
use Rattle.plan.proofs.Accepted.{never_refused}
use Rattle.plan.proofs.Bytes.{one_draft}
use Rattle.plan.proofs.Trees.{in_tree, tree_of, tree_single, tree_leading}
use Rattle.plan.proofs.Verdicts.{every}

walk_prop : (p : Line → Bool) (xs : List Line) (a : ℕ) (is : List ℕ) (b : ℕ) → IsProp (Walk p xs a is b)
walk_prop p xs a [] b = Coded-set coded_ℕ a b
walk_prop p xs a (i ∷ is) b =
    let before : IsProp (Walk p xs (get_or xs i blank).to is b) = walk_prop p xs (get_or xs i blank).to is b in
    hlevel (le_prop, Coded-set coded_bool, Coded-set coded_ℕ, before)

route_prop : (w : Way) (p : Line → Bool) (xs : List Line) (h : ℕ) (is : List ℕ) → IsProp (Route w p xs h is)
route_prop Way.Direct p xs h is = walk_prop p xs 0 is h
route_prop Way.Back p xs h is = walk_prop p xs h is 0

only_one_prop : (P : List ℕ → Type 0) → ((is : List ℕ) → IsProp (P is)) → IsProp (OnlyOne P)
only_one_prop P prop x y =
    let e : x.0 ≡ y.0 = y.2 x.0 x.1 in
    λ i. (
      e i,
      is_prop→PathP (λ j. P (e j)) (λ j. prop (e j)) x.1 y.1 i,
      is_prop→PathP (λ j. (js : List ℕ) → P js → js ≡ e j) (λ j. Π_prop (λ js. Π_prop (λ _. Coded-set (coded_list coded_ℕ) js (e j)))) x.2 y.2 i,
    )

module _ (p : Plan) where
  single : (w : Way) → Kept (Rule.Single w) p.draft
  single w h lt = ∥∥₁_elim (p.right (Rule.Single w) h lt) (Coded-set coded_ℕ _ _) (λ e. e)

  tree : (w : Way) → Tree w p.draft
  tree w h lt =
      let xs = lines_of p.draft in
      ∥∥₁_elim (p.right (Rule.Leading w) h lt) (only_one_prop (Route w (in_tree w) xs h) (route_prop w (in_tree w) xs h))
      (λ way. only_route (in_tree w) xs w h (tree_of p.draft w (single w) h lt way))

  pub two_trees : TwoTrees p.draft
  two_trees = (tree Way.Direct, tree Way.Back, λ h lt. ∥∥₁_elim (p.right Rule.Counters h lt) (Coded-set coded_ℕ _ _) (λ e. e))

trails : (d : Draft) (w : Way) → Tree w d → (h : ℕ) → h < d.houses → OnlyOne (Trail w (in_tree w) (lines_of d) h)
trails d w t h lt = only_trail (in_tree w) (lines_of d) w h (t h lt)

kept : (d : Draft) → TwoTrees d → (q : Rule) → Kept q d
kept d (out, home, counters) =
    every d
    (tree_single d Way.Direct (trails d Way.Direct out))
    (tree_leading d Way.Direct (trails d Way.Direct out))
    (tree_single d Way.Back (trails d Way.Back home))
    (tree_leading d Way.Back (trails d Way.Back home))
    counters

abbrev planned : (d : Draft) → TwoTrees d → Plan
planned d trees = record { draft = d; right = λ q h lt. ∣ kept d trees q h lt ∣₁ }

-- a file in form is accepted exactly when its marks are two spanning trees with counters
pub accepts_trees : (f : List ℕ) (r : Result Plan Fault) → ReadPlan f r → AcceptsTrees f (is_ok r)
accepts_trees f (Ok p) reads d same =
    ((λ _. subst TwoTrees (one_draft p.draft d (reads ∙ sym same)) (two_trees p)), (λ _. refl))
accepts_trees f (Err v) refused d same = (
  (λ e. absurd (false≢true e)),
  (λ trees. absurd (never_refused (planned d trees) v (subst (λ g. Refused g v) (sym same) refused))),
)
