-- What is handed on of the two buffers is what the two writers ask for.
use Rattle.told.proofs.Told.{output_count, output-told, error-told}
use Rattle.rule_from_text.proofs.print.Goals as goal

pub slice_bounds-print_file-end : goal.slice_bounds-print_file-end
slice_bounds-print_file-end c = search output_count

pub print_file-requires : goal.print_file-requires
print_file-requires c = search output-told

pub print_refusal-requires : goal.print_refusal-requires
print_refusal-requires c = search error-told
