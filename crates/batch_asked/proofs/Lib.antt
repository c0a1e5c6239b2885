-- What the checks before a verdict tell, and how code comes to the reply.
pub mod Asked
