-- Joins: one more value, and values in another order.
use Rattle.std.proofs.Common.{◌≡◌, ℕ, ◌+◌, List, [], ◌∷◌, ◌++◌, sym, refl, ap, ◌∙◌}
use Rattle.std.specs.List.{fold, enumerate_from}
use Rattle.quantity.specs.declared.readings.Reading.{Reading}
use Rattle.quantity.specs.Counts.{takings, AnyOrder}
use Rattle.quantity.specs.Joins.{Taking, join_of}
use Rattle.quantity.specs.Senses.{Sense, Laws}

module _ {V W F : Type 0} (q : Sense V W F) (laws : Laws V W F q) where
  pub unit_right : (x : V) → q.join x q.nothing ≡ x
  unit_right x = laws.commutative x q.nothing ∙ laws.unit x

  -- a value in front of two others joins the second first
  swapped : (x y z : V) → q.join x (q.join y z) ≡ q.join y (q.join x z)
  swapped x y z =
      sym (laws.associative x y z) ∙ (ap (λ v. q.join v z) (laws.commutative x y) ∙ laws.associative y x z)

  -- a taking from the middle of a list joins as if it stood in front
  from_middle : (before : List Taking) (t : Taking) (after : List Taking) → join_of q (before ++ (t ∷ after)) ≡ q.join (q.given t.house t.reading) (join_of q (before ++ after))
  from_middle [] t after = refl
  from_middle (b ∷ bs) t after =
      ap (q.join (q.given b.house b.reading)) (from_middle bs t after)
      ∙ swapped (q.given b.house b.reading) (q.given t.house t.reading) (join_of q (bs ++ after))

  -- readings joined one by one to a value, from house h on
  pub joined_on : (rs : List Reading) (h : ℕ) (x : V) → fold (λ y t. q.join y (q.given t.0 t.1)) x (enumerate_from h rs) ≡ q.join x (join_of q (takings h rs))
  joined_on [] h x = sym (unit_right x)
  joined_on (r ∷ rs) h x =
      joined_on rs (h + 1) (q.join x (q.given h r)) ∙ laws.associative x (q.given h r) (join_of q (takings (h + 1) rs))

  pub any_order : AnyOrder q
  any_order [] us e = ap (join_of q) e
  any_order (t ∷ ts) us (before, after, e, rest) =
      ap (join_of q) e
      ∙ (from_middle before t after ∙ ap (q.join (q.given t.house t.reading)) (any_order ts (before ++ after) rest))
