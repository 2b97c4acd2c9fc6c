-- What a fault of a course is of its run.
use Rattle.search_scheduled.specs.declared.course.CourseFault.{CourseFault}
use Rattle.search_scheduled.specs.declared.course.CourseFault.TheVariants as courses
use Rattle.search_scheduled.specs.declared.fault.SearchFault.{SearchFault}
use Rattle.search_scheduled.specs.declared.fault.SearchFault.TheVariants as searches

abbrev pub fault_of : CourseFault → SearchFault
fault_of courses.NoMemory = searches.NoMemory
fault_of courses.NoEntry = searches.NoEnd
fault_of courses.GivenUp = searches.GivenUp
