use Rattle.std.proofs.Common.{◌≡◌, ℕ, ◌+◌, ◌≤◌, List, ◌++◌, rules, length, take, sym, ap, ap₂, ◌∙◌, subst, le_refl, take-add, drop_at, length-take-le}
use Rattle.std.proofs.lemmas.List.{take-append-le}
use Rattle.std.proofs.lemmas.Slice.{take-put_mid_below}
use Rattle.std.specs.Io.KnownBytes.{Consumes}
use Rattle.std.proofs.KnownBytes.{Consumes-trans}
use borrow.Rule.Slice.PartMut.{put_mid, post_of}
use Rattle.runcheck.proofs.input.read_all.Goals as goal

-- what is kept after a read of n bytes into the part from a on
take_read : (a k n : ℕ) (xs ys : List ℕ) → a ≤ length xs → n ≤ length ys
    → take a xs ++ take n ys ≡ take (a + n) (put_mid a k xs ys)
take_read a k n xs ys within fits =
    let front = take-put_mid_below a k xs ys a (le_refl a) within in
    let rest = drop_at (take a xs) (ys ++ post_of a k xs) a (length-take-le a xs within) in
    sym (take-add a n (put_mid a k xs ys) ∙ ap₂ (λ u v. u ++ v) front (ap (take n) rest ∙ take-append-le n ys (post_of a k xs) fits))

pub loop-at-preserved : goal.loop-at-preserved
loop-at-preserved g c =
    let kept = take_read c.loop-at.at _ c.in_ok-more.more c.loop-at.kept c.read.new.buf c.loop-at.invariant.0 c.in_ok-more.ensures.bound.0 in
    (search rules, search rules, subst (Consumes _ _) kept (Consumes-trans _ _ _ _ _ c.loop-at.invariant.2 c.in_ok-more.ensures.bytes.0))
