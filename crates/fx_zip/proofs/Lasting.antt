-- Frames that last over own changes: a rule is followed as before where the own changes are as before at all that was read.
use Rattle.fx_zip.proofs.Prelude.{◌≡◌, ℕ, zero, suc, ◌+◌, ◌-◌, ◌≤◌, ◌<◌, true, false, List, [], ◌∷◌, ◌++◌, length, take, drop, Option, Some, None, IsSome, is_some, refl, sym, ap, ◌∙◌, subst, arith, append_assoc, length-append}
use Rattle.fx_zip.proofs.Prelude.{nat_le, Node, Known, Ask, Answer, Look, Tick, follow, if_known, seen, Bindings, Address, lead, SpecTree, ReadList, SameOver, known_of, Frame, around, around_last, around_frame, shorter}
use Rattle.fx_zip.proofs.Prelude.{AreFound, IsFresh, are_told, part, ZipTree, path_of}
use Rattle.std.proofs.lemmas.Bool.Decides.{nat_tests}
use Rattle.std.proofs.lemmas.List.{drop_at}
use Rattle.fx_base.proofs.Booleans.{first_true, second_true}
use Rattle.fx_base.proofs.Results.{still_some}
use Rattle.fx_view.proofs.Growing.{Grows, Grows-reads}
use Rattle.fx_zip.proofs.Standing.{IsMore, found_length}

abbrev Path : Type 0
Path = List (List ℕ)

-- ---- other own changes that are the same wherever something is known

module _ {A : Type 0} (known own other : Known) (same : (p : Path) → IsSome (known p) → own p ≡ other p) where
  pub follow_over : (rule : Ask A) → follow known own rule ≡ follow known other rule
  follow_over (Answer a) = refl
  follow_over (Tick rule) = follow_over rule
  follow_over (Look p next) = step (known p) refl (λ n. follow_over (next n))
    where
      step : (k : Option (Option Node)) → known p ≡ k → ((n : Option Node) → follow known own (next n) ≡ follow known other (next n)) → if_known p k (λ n. follow known own (next (seen (own p) n))) ≡ if_known p k (λ n. follow known other (next (seen (other p) n)))
      step None at rest = refl
      step (Some n) at rest = rest (seen (own p) n) ∙ ap (λ o. follow known other (next (seen o n))) (same p (ap is_some at))

-- ---- fewer reads

more_within : (k n : ℕ) (reads : ReadList) → k ≤ n → IsMore (take k reads) (take n reads)
more_within zero n reads few = (take n reads, refl)
more_within (suc k) zero reads few = absurd (omega (arith, few))
more_within (suc k) (suc n) [] few = ([], refl)
more_within (suc k) (suc n) (r ∷ reads) few = let more = more_within k n reads (omega (arith, few)) in (more.0, ap (λ rs. r ∷ rs) more.1)

same_within : (k n : ℕ) (reads : ReadList) (own now : Known) → k ≤ n → SameOver (take n reads) own now → SameOver (take k reads) own now
same_within k n reads own now few same p some =
    let more = more_within k n reads few in
    let grows : Grows (known_of (take k reads)) (known_of (take n reads)) = subst (λ rs. Grows (known_of (take k reads)) (known_of rs)) (sym more.1) (Grows-reads (take k reads) more.0) in
    same p (still_some (known_of (take k reads) p) (known_of (take n reads) p) (λ m is. ap is_some (grows.keeps p m is)) some)

-- ---- frames

is_within : (k n : ℕ) → nat_le k n ≡ true → k ≤ n
is_within k n e = grind (arith, nat_tests)

module _ (n : ℕ) (reads : ReadList) (own now : Known) (same : SameOver (take n reads) own now) (root : SpecTree) where
  pub found_lasts : (a : Address) (fs : List Frame) (env : Bindings) → are_told n fs ≡ true → AreFound reads own root a fs env → AreFound reads now root a fs env
  found_lasts [] [] env told h = h
  found_lasts [] (f ∷ fs) env told h = absurd h
  found_lasts (step ∷ a) [] env told h = absurd h
  found_lasts (step ∷ a) (f ∷ fs) env told h = (
    sym (follow_over (known_of (take f.reads reads)) own now (same_within f.reads n reads own now (is_within f.reads n (first_true (nat_le f.reads n) (are_told n fs) told)) same) (lead step (path_of fs) (around step f.caller env) (part root a))) ∙ h.0,
    h.1,
    found_lasts a fs (around step f.caller env) (second_true (nat_le f.reads n) (are_told n fs) told) h.2,
  )

pub fresh_lasts : (n : ℕ) (reads : ReadList) (own now : Known) (z : ZipTree) → SameOver (take n reads) own now → are_told n z.frames ≡ true → IsFresh reads own z → IsFresh reads now z
fresh_lasts n reads own now z same told h = record {
  ahead = h.ahead;
  kept = h.kept;
  whole = h.whole;
  found = found_lasts n reads own now same z.root h.kept z.frames z.env told h.found;
  set = h.set;
}

-- ---- one frame less, whatever its step

drop_whole : {A : Type 0} (xs : List A) (n : ℕ) → n ≡ length xs → drop n xs ≡ []
drop_whole [] zero e = refl
drop_whole [] (suc n) e = refl
drop_whole (x ∷ xs) zero e = absurd (omega (arith, e))
drop_whole (x ∷ xs) (suc n) e = drop_whole xs n (omega (arith, e))

module _ (reads : ReadList) (own : Known) (z : ZipTree) where
  shorter_from : (ahead kept : Address) (fs : List Frame) → fs ≡ z.frames → z.address ≡ ahead ++ kept → AreFound reads own z.root kept fs z.env → IsFresh reads own (shorter z)
  shorter_from ahead [] [] at whole found = record {
    ahead = ahead;
    kept = [];
    whole = whole;
    found =
        subst (λ fs. AreFound reads own z.root [] (drop 1 fs) (around_frame z.address fs z.env)) at
        (ap (λ a. around_last a None z.env) (drop_whole z.address (length z.address - 0) (omega arith)) ∙ found);
    set = tt;
  }
  shorter_from ahead [] (f ∷ fs) at whole found = absurd found
  shorter_from ahead (step ∷ kept) [] at whole found = absurd found
  shorter_from ahead (step ∷ kept) (f ∷ fs) at whole found =
      let long : length fs ≡ length kept = found_length reads own z.root kept fs (around step f.caller z.env) found.2 in
      let both : length (ahead ++ step ∷ kept) ≡ length ahead + length (step ∷ kept) = length-append ahead (step ∷ kept) in
      let all = ap length whole in
      let front : drop (length z.address - length (f ∷ fs)) z.address ≡ step ∷ kept =
      ap (drop (length z.address - length (f ∷ fs))) whole ∙ drop_at ahead (step ∷ kept) (length z.address - length (f ∷ fs)) (omega (arith, long, both, all)) in
      record {
        ahead = ahead ++ step ∷ [];
        kept = kept;
        whole = whole ∙ sym (append_assoc ahead (step ∷ []) kept);
        found =
            subst (λ gs. AreFound reads own z.root kept (drop 1 gs) (around_frame z.address gs z.env)) at
            (subst (λ a. AreFound reads own z.root kept fs (around_last a f.caller z.env)) (sym front) found.2);
        set = tt;
      }

  pub fresh_shorter : IsFresh reads own z → IsFresh reads own (shorter z)
  fresh_shorter h = shorter_from h.ahead h.kept z.frames refl h.whole h.found

-- some frame is there, where not all are told by the first reads
pub some_frame : (n : ℕ) (fs : List Frame) → are_told n fs ≡ false → length (drop 1 fs) < length fs
some_frame n [] e = absurd (cc)
some_frame n (f ∷ fs) e = omega arith
