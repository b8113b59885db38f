-- What is handed on of the two buffers is what the two writers ask for.
use Rattle.told.proofs.Told.{output_count, output-told, error-told}
use Rattle.text_from_rule.proofs.print.Goals as goal

pub slice_bounds-print_text-end : goal.slice_bounds-print_text-end
slice_bounds-print_text-end c = search output_count

pub print_text-requires : goal.print_text-requires
print_text-requires c = search output-told

pub print_refusal-requires : goal.print_refusal-requires
print_refusal-requires c = search error-told
