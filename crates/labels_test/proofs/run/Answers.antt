-- Each case leaves a readable table to the next.
use borrow.Author.Rules.{rules}
use denote.Param.Always.{mut_by}
use Rattle.labels.specs.Search.{Readable}
use Rattle.labels_test.proofs.run.Goals as goal

pub each_case-requires : goal.each_case-requires
each_case-requires c = mut_by _ (λ f. Readable f.2.now) (λ s a i. search rules) (λ s a r t i e. search rules) _ c.empty-t.ensures
