-- What stands on the page of a list. Assumes nothing.
use Rattle.std.proofs.Common.{◌≡◌, ℕ, ◌+◌, ◌-◌, ◌<◌, ◌≤◌, ltb, List, [], ◌∷◌, ◌++◌, length, get_or, Some, None, Option, fold, sym, refl, ap, ◌∙◌, subst, arith}
use Rattle.std.specs.List.{slice_get}
use Rattle.std.specs.Option.{is_some, IfSome}
use Rattle.std.proofs.lemmas.Grind.{common_steps}
use Rattle.std.proofs.lemmas.List.{append-nil, append_assoc, length-replicate}
use Rattle.std.proofs.lemmas.Option.{slice_get-get_or, slice_get_past}
use Rattle.std.proofs.lemmas.Bool.Decides.{nat_tests}
use Rattle.std.proofs.lemmas.Bool.{ltb-true, ltb-false}
use Rattle.ladder.specs.declared.poses.Pose.{Pose}
use Rattle.sources.specs.declared.pages.Page.{Page}
use Rattle.sources.specs.Reach.{pose}
use Rattle.sources.specs.Pages.{blank, with_pose, page_of, Shows, Covers}

-- a page and the list that it is of, place by place
record Holds (g : Page) (ps : List Pose) : Type 0 where
  wide : length g.poses ≡ 16
  counted : g.count ≡ length ps
  kept : (k : ℕ) (d : Pose) → k < 16 → g.from + k < length ps → get_or g.poses k d ≡ get_or ps (g.from + k) d

none_held : (from : ℕ) → Holds (blank from) []
none_held from = record { wide = length-replicate 16 (pose 0 0); counted = refl; kept = λ k d h l. absurd (omega (arith, l)) }

-- one pose more, which is kept where its number is among the sixteen
one_more : (g : Page) (ps : List Pose) (p : Pose) → Holds g ps → Holds (with_pose g p) (ps ++ (p ∷ []))
one_more g ps p o = record {
  wide = grind (arith, nat_tests, common_steps, o.wide);
  counted = grind (arith, common_steps, o.counted);
  kept = λ k d l m. grind (arith, nat_tests, common_steps, o.wide, o.counted, o.kept k d l);
}

all_held : (g : Page) (ps qs : List Pose) → Holds g ps → Holds (fold with_pose g qs) (ps ++ qs)
all_held g ps [] o = subst (Holds g) (sym (append-nil ps)) o
all_held g ps (q ∷ qs) o =
    subst (Holds (fold with_pose (with_pose g q) qs)) (append_assoc ps (q ∷ []) qs) (all_held (with_pose g q) (ps ++ (q ∷ [])) qs (one_more g ps q o))

held : (g : Page) (ps : List Pose) → Shows g ps → Holds g ps
held g ps e = subst (λ h. Holds h ps) (sym e) (all_held (blank g.from) [] ps (none_held g.from))

pub shows_count : (g : Page) (ps : List Pose) → Shows g ps → g.count ≡ length ps
shows_count g ps e = (held g ps e).counted

-- what a look-up at a number answers
pub shows_pose : (g : Page) (ps : List Pose) (n : ℕ) (d : Pose) → Covers g n → Shows g ps
    → (P : Pose → Type 0) → ((p : Pose) → P p → p ≡ get_or g.poses (n - g.from) d) → (o : Option Pose) → is_some o ≡ ltb n g.count → IfSome o P → o ≡ slice_get ps n
shows_pose g ps n d c e P f None v t =
    let h : g.count ≤ n = ltb-false n g.count (sym v) in
    sym (slice_get_past ps n (omega (arith, shows_count g ps e)))
shows_pose g ps n d c e P f (Some p) v t =
    let h : n < g.count = ltb-true n g.count (sym v) in
    let l : n < length ps = omega (arith, shows_count g ps e) in
    let back : g.from + (n - g.from) ≡ n = omega (arith, c.low) in
    ap Some (f p t ∙ (held g ps e).kept (n - g.from) d (omega (arith, c.low, c.high)) (omega (arith, back, l)) ∙ ap (λ m. get_or ps m d) back)
    ∙ sym (slice_get-get_or ps n d l)

-- the page of a list starts where it should
from_stays : (g : Page) (ps : List Pose) → (fold with_pose g ps).from ≡ g.from
from_stays g [] = refl
from_stays g (p ∷ ps) = from_stays (with_pose g p) ps

pub page_from : (n : ℕ) (ps : List Pose) → (page_of n ps).from ≡ n
page_from n ps = from_stays (blank n) ps

pub page_shows : (n : ℕ) (ps : List Pose) → Shows (page_of n ps) ps
page_shows n ps = ap (λ m. page_of m ps) (sym (page_from n ps))
