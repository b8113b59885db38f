-- The worked cases of typed rules: P1's rule, the four properties of document 000, figure 1, and texts that tell each
-- sentence of the request from its misreadings.
use Rattle.std.specs.Prelude.{ℕ, ◌≡◌, List, [], ◌∷◌, ◌++◌, replicate}
use Rattle.lists.specs.Lists.{bytes}
use Rattle.rules.specs.Formula.{before, overlaps, includes, same, Formula, both, neg, exists, has, pair}
use Rattle.rules.specs.Cases.{p1_file, no_evening_includes_test}
use Rattle.typed_grammar.specs.Grammar.{Tree, Says}
use Rattle.typed_grammar.specs.Formula.{formula_said}
use Rattle.typed_grammar.specs.Text.{rule_text}
use Rattle.output.specs.declared.Written.TheVariants.{Length, Refused}
use Rattle.typed.specs.Grammar.{read_text}
use Rattle.typed_file.specs.Answer.{typed_answer, bytes_of}
use Rattle.rule_text.specs.Text.{text_answer}

-- the text says the formula
pub record SaysFormula (text : List ℕ) (f : Formula) : Type 0 where
  pub tree : Tree
  pub says : Says text tree
  pub formula : formula_said tree ≡ f

-- "An or becomes the not of the and of the nots of its two sides."
abbrev pub or : Formula → Formula → Formula
or f g = neg (both (neg f) (neg g))

abbrev pub p1_text : List ℕ
p1_text = bytes "!exist A, B . A('EVENING') & B('TEST') & A i B"

-- ── figure 1, from its clean copy: property 1 has `!D`, and `|` where the print has lost it ──
abbrev pub property1 : List ℕ
property1 =
    bytes "!exist B1, B2, D .\n B1('BOOT') & B2('BOOT') & D('DL_IMAGE') &\n B1 < B2 &\n (B1 i D |\n B2 i D |\n"
    ++ bytes " (B1 < D & D < B2) |\n (B1 o D & !D i B2) |\n (D o B2 & !D i B1)\n )\n"

abbrev pub no_image_during_two_boots : Formula
no_image_during_two_boots =
    neg (exists 0 (exists 1 (exists 2
    (both
    (both (both (both (has 0 (bytes "BOOT")) (has 1 (bytes "BOOT"))) (has 2 (bytes "DL_IMAGE"))) (pair before 0 1))
    (or
    (or (or (or (pair includes 0 2) (pair includes 1 2)) (both (pair before 0 2) (pair before 2 1)))
    (both (pair overlaps 0 2) (neg (pair includes 2 1))))
    (both (pair overlaps 2 1) (neg (pair includes 2 0))))))))

abbrev pub property2 : List ℕ
property2 = bytes "!exist D, F .\n (D('DL_MOBPRM') | D('DL_ARMPRM')) &\n F('DL_FAIL') &\n D i F\n"

abbrev pub no_fail_during_parameters : Formula
no_fail_during_parameters =
    neg (exists 0 (exists 1
    (both
    (both (or (has 0 (bytes "DL_MOBPRM")) (has 0 (bytes "DL_ARMPRM"))) (has 1 (bytes "DL_FAIL")))
    (pair includes 0 1))))

abbrev pub property3 : List ℕ
property3 =
    bytes "!exist O, F, R .\n O('INS_ON') & F('INS_FAIL') & R('INS_RECOVER') &\n O < F & F < R &\n"
    ++ bytes " !exist X . (X('INS_ON') | X('INS_RECOVER')) & O < X & X < R\n"

abbrev pub no_fail_before_closest_recovery : Formula
no_fail_before_closest_recovery =
    neg (exists 0 (exists 1 (exists 2
    (both
    (both
    (both
    (both (both (has 0 (bytes "INS_ON")) (has 1 (bytes "INS_FAIL"))) (has 2 (bytes "INS_RECOVER")))
    (pair before 0 1))
    (pair before 1 2))
    (neg (exists 3
    (both (both (or (has 3 (bytes "INS_ON")) (has 3 (bytes "INS_RECOVER"))) (pair before 0 3)) (pair before 3 2))))))))

abbrev pub property4 : List ℕ
property4 = bytes "!exist D, G, S .\n D('DL_IMAGE') & G('GET_CAMDATA') & S('STARVE') &\n D i S & G i S\n"

abbrev pub no_starve_inside_both : Formula
no_starve_inside_both =
    neg (exists 0 (exists 1 (exists 2
    (both
    (both
    (both (both (has 0 (bytes "DL_IMAGE")) (has 1 (bytes "GET_CAMDATA"))) (has 2 (bytes "STARVE")))
    (pair includes 0 2))
    (pair includes 1 2)))))

abbrev pub or_text : List ℕ
or_text = bytes "exist A . A('Y') | A('X') | A('Y')"

abbrev pub or_file : List ℕ
or_file =
    bytes "RUL" ++ (1 ∷ 0 ∷ 2 ∷ 1 ∷ bytes "Y" ++ (1 ∷ bytes "X" ++ (12
    ∷ 4 ∷ 0 ∷ 0
    ∷ 2 ∷ 0 ∷ 0
    ∷ 4 ∷ 0 ∷ 1
    ∷ 2 ∷ 2 ∷ 0
    ∷ 1 ∷ 1 ∷ 3
    ∷ 2 ∷ 4 ∷ 0
    ∷ 2 ∷ 5 ∷ 0
    ∷ 4 ∷ 0 ∷ 0
    ∷ 2 ∷ 7 ∷ 0
    ∷ 1 ∷ 6 ∷ 8
    ∷ 2 ∷ 9 ∷ 0
    ∷ 3 ∷ 0 ∷ 10
    ∷ [])))

-- the second "some" takes variable 1, the third variable 0, the fourth 3
abbrev pub all_signs : Formula
all_signs =
    exists 2 (exists 1 (exists 0 (exists 3
    (neg (both (both (pair before 2 1) (neg (pair overlaps 0 3))) (both (pair includes 3 1) (pair same 0 3)))))))

abbrev pub seventeen_labels : List ℕ
seventeen_labels =
    bytes "exist A . A('A') & A('B') & A('C') & A('D') & A('E') & A('F') & A('G') & A('H') & A('I') & A('J') &"
    ++ bytes " A('K') & A('L') & A('M') & A('N') & A('O') & A('P') & A('Q')"

pub record TypedCases : Type 0 where
  -- P1 typed gives the paper's 44 bytes
  pub p1 : typed_answer p1_text 599 ≡ Length 44
  pub p1-file : bytes_of p1_text (read_text p1_text) ≡ p1_file
  pub p1-says : SaysFormula p1_text no_evening_includes_test
  pub p1-text : rule_text no_evening_includes_test ≡ bytes "!(exist A.(exist B.((A('EVENING')&B('TEST'))&A i B)))"
  -- figure 1
  pub figure1-1 : SaysFormula property1 no_image_during_two_boots
  pub figure1-2 : SaysFormula property2 no_fail_during_parameters
  pub figure1-3 : SaysFormula property3 no_fail_before_closest_recovery
  pub figure1-4 : SaysFormula property4 no_starve_inside_both
  -- signs that touch, and names that take all letters that follow
  pub touching : SaysFormula (bytes "existA.A<A") (exists 0 (pair before 0 0))
  pub sign_before_name : SaysFormula (bytes "exist A . A oA") (exists 0 (pair overlaps 0 0))
  pub one_name : typed_answer (bytes "exist A . AoA") 599 ≡ Refused 25
  -- the innermost binds
  pub bound_again : SaysFormula (bytes "exist A . exist A . A < A") (exists 0 (exists 1 (pair before 1 1)))
  -- each refusal, and 20 before all else
  pub met-20 : typed_answer [] 598 ≡ Refused 20
  pub met-25 : typed_answer [] 599 ≡ Refused 25
  pub met-5 : typed_answer (bytes "exist A . A('')") 599 ≡ Refused 5
  pub met-9 : typed_answer (bytes "exist A . A < B") 599 ≡ Refused 9
  pub met-10 : typed_answer (bytes "exist A, B, C, D, E . A < E") 599 ≡ Refused 10
  -- "`!` binds closest, then `&`, then `|`"
  pub and_before_or : SaysFormula (bytes "exist A . A < A | A o A & A i A")
      (exists 0 (or (pair before 0 0) (both (pair overlaps 0 0) (pair includes 0 0))))
  pub not_before_and : SaysFormula (bytes "exist A . !A < A & A o A")
      (exists 0 (both (neg (pair before 0 0)) (pair overlaps 0 0)))
  pub or-behind-and : SaysFormula (bytes "exist A . A o A & A i A | A < A")
      (exists 0 (or (both (pair overlaps 0 0) (pair includes 0 0)) (pair before 0 0)))
  -- ""exist" reaches as far right as it can", over `|` too, and up to the bracket
  pub exist_over_or : SaysFormula (bytes "exist A . A < A & exist B . A < B | same(B,A)")
      (exists 0 (both (pair before 0 0) (exists 1 (or (pair before 0 1) (pair same 1 0)))))
  pub exist_in_brackets : SaysFormula (bytes "(exist A . A < A) | !(exist B . B o B) & exist C . C i C")
      (or (exists 0 (pair before 0 0)) (both (neg (exists 0 (pair overlaps 0 0))) (exists 0 (pair includes 0 0))))
  -- eight bytes are a name, nine are none
  pub name_of-8 : SaysFormula (bytes "exist Abcdefg8 . Abcdefg8 < Abcdefg8") (exists 0 (pair before 0 0))
  pub name_of-9 : typed_answer (bytes "exist Abcdefgh9 . Abcdefgh9 < Abcdefgh9") 599 ≡ Refused 25
  -- the file of an or, and of a label that comes twice
  pub or-file : bytes_of or_text (read_text or_text) ≡ or_file
  -- all signs and four levels; and a variable bound again
  pub all_text : rule_text all_signs
      ≡ bytes "(exist A.(exist B.(exist C.(exist D.!((A < B&!C o D)&(D i B&same(C,D)))))))"
  pub met-4_labels : typed_answer seventeen_labels 599 ≡ Refused 4
  pub met-4_nodes : typed_answer (replicate 63 33 ++ bytes "exist A . A < A") 599 ≡ Refused 4
  -- the order: 25, 4, 5, 9, 10
  pub first-4 : typed_answer (replicate 65 33 ++ bytes "A('')") 599 ≡ Refused 4
  pub first-5 : typed_answer (bytes "exist A, B, C, D, E . F('')") 599 ≡ Refused 5
  pub first-9 : typed_answer (bytes "exist A, B, C, D, E . F('F')") 599 ≡ Refused 9
  pub again_text : rule_text (exists 0 (both (pair before 0 0) (exists 0 (pair before 0 0))))
      ≡ bytes "(exist A.(A < A&(exist B.B < B)))"
  -- the buffer of the text
  pub p1_written : text_answer p1_file 4096 ≡ Length 53
  pub text-20 : text_answer p1_file 4095 ≡ Refused 20
  -- "at both ends"; 4,096 bytes and one more
  pub bytes-4096 : typed_answer (bytes "exist A.A<A" ++ replicate 4085 32) 599 ≡ Length 13
  pub bytes-4097 : typed_answer (bytes "exist A.A<A" ++ replicate 4086 32) 599 ≡ Refused 25
  -- neither space nor LF: outside the grammar, but a byte between quotes
  pub tab : typed_answer (bytes "exist A .\tA < A") 599 ≡ Refused 25
  pub quoted_lf : typed_answer (bytes "exist A . A('A\nB')") 599 ≡ Refused 5
  pub open_quote : typed_answer (bytes "exist A . A('A)") 599 ≡ Refused 25
  -- a capital first, then letters and digits alone
  pub small_first : typed_answer (bytes "exist a . a < a") 599 ≡ Refused 25
  pub underscore : typed_answer (bytes "exist A_1 . A_1 < A_1") 599 ≡ Refused 25
