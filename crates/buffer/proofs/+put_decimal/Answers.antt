use Rattle.buffer.proofs.TextLaws.{small_put, large_put, small_end, large_end, large_fits}
use Rattle.buffer.proofs.+put_decimal.Goals as goal

-- src/lib.rt:77:9
pub returns-then-n-lt10-clause-value : goal.returns-then-n-lt10-clause-value
returns-then-n-lt10-clause-value t c = search small_end

-- src/lib.rt:77:9
pub returns-then-n-lt10-clause-buf_after : goal.returns-then-n-lt10-clause-buf_after
returns-then-n-lt10-clause-buf_after t c = search small_put

-- src/lib.rt:81:5
pub overflow_add-result : goal.overflow_add-result
overflow_add-result t c = search large_fits

-- src/lib.rt:71:1
pub returns-clause-value : goal.returns-clause-value
returns-clause-value t c = search large_end

-- src/lib.rt:71:1
pub returns-clause-buf_after : goal.returns-clause-buf_after
returns-clause-buf_after t c = search large_put
