-- The rule files of the paper's worked cases P1 and P10, and what they say.
use Rattle.std.specs.Prelude.{ℕ, List, [], ◌∷◌, ◌++◌}
use Rattle.lists.specs.Lists.{bytes}
use Rattle.rules.specs.Formula.{before, includes, same, Formula, both, neg, exists, has, pair}
use Rattle.rules.specs.declared.Rule.{Rule}

-- P1: "labels EVENING, TEST; nodes (4,0,0) (4,1,1) (1,0,1) (7,0,1) (1,2,3) (3,1,4) (3,0,5) (2,6,0), 44 bytes in all"
abbrev pub p1_file : List ℕ
p1_file =
    bytes "RUL" ++ (1 ∷ 0 ∷ 2 ∷ 7 ∷ bytes "EVENING" ++ (4 ∷ bytes "TEST" ++ (8
    ∷ 4 ∷ 0 ∷ 0
    ∷ 4 ∷ 1 ∷ 1
    ∷ 1 ∷ 0 ∷ 1
    ∷ 7 ∷ 0 ∷ 1
    ∷ 1 ∷ 2 ∷ 3
    ∷ 3 ∷ 1 ∷ 4
    ∷ 3 ∷ 0 ∷ 5
    ∷ 2 ∷ 6 ∷ 0
    ∷ [])))

-- what is read of it: two labels, eight nodes from place 20 on
abbrev pub p1_rule : Rule
p1_rule = record { labels = 2; nodes = 20; count = 8 }

-- "no EVENING includes a TEST"
abbrev pub no_evening_includes_test : Formula
no_evening_includes_test =
    neg (exists 0 (exists 1 (both (both (has 0 (bytes "EVENING")) (has 1 (bytes "TEST"))) (pair includes 0 1))))

-- ""no TEST without a run after it" fails when a TEST ends and holds again once a later run has finished"
abbrev pub no_test_without_run_after : Formula
no_test_without_run_after = neg (exists 0 (both (has 0 (bytes "TEST")) (neg (exists 1 (pair before 0 1)))))

-- P10: "rule "some A, same A A""
abbrev pub p10_file : List ℕ
p10_file = bytes "RUL" ++ (1 ∷ 0 ∷ 0 ∷ 2 ∷ 8 ∷ 0 ∷ 0 ∷ 3 ∷ 0 ∷ 0 ∷ [])

abbrev pub p10_rule : Rule
p10_rule = record { labels = 0; nodes = 7; count = 2 }

abbrev pub some_same_as_itself : Formula
some_same_as_itself = exists 0 (pair same 0 0)
